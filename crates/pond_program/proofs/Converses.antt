-- What each answer says leaves no other answer in its place.
use Rattle.std.proofs.Common.{◌≡◌, ℕ, List, Option, None, Some, IfSome, Result, Ok, Err, reverse, inl, inr, arith, refl, sym, subst, ap, ◌∙◌}
use Rattle.sha1.specs.Sha1.{sha1}
use Rattle.script_terms.specs.declared.script.Script.{Script}
use Rattle.script_grammar.specs.Script.{Refusal}
use Rattle.text_model.specs.Clashes.{NoClash, IsFirstClash}
use Rattle.text_model.specs.Named.{named}
use Rattle.pond_program.specs.declared.status.Status.{Status}
use Rattle.pond_program.specs.declared.status.Status.TheVariants.{Done, Usage, Refused, ReadFault, WriteFault, Clash, Memory, TooLarge}
use Rattle.pond_program.proofs.Clashing.{clash_or_none}
use Rattle.pond_program.specs.declared.task.Task.{Task}
use Rattle.pond_program.specs.declared.task.Task.TheVariants as tasks
use Rattle.pond_base.specs.Outside.{Seen}
use Rattle.pond_program.specs.Exactly.{RefusedWhere, TooLargeWhere, CompleteWhere, ClashWhere, RemainsFor}
use Rattle.pond_program.specs.Table.{RunSays, UsageSays, SaysFor}

-- a fact of bytes that are told, from another
told : (known : Option (List ℕ)) (P Q : List ℕ → Type 0) → IfSome known P → ((bytes : List ℕ) → P bytes → Q bytes) → IfSome known Q
told None P Q h f = tt
told (Some bytes) P Q h f = f bytes h

always : (known : Option (List ℕ)) (Q : List ℕ → Type 0) → ((bytes : List ℕ) → Q bytes) → IfSome known Q
always None Q f = tt
always (Some bytes) Q f = f bytes

-- no bytes are a script and refused
script_or_refusal : (read : Result Script Refusal) (script : Script) (refusal : Refusal) → read ≡ Ok script → read ≡ Err refusal → ⊥
script_or_refusal read script refusal some none = let bad : ◌≡◌ {A = Result Script Refusal} (Ok script) (Err refusal) = sym some ∙ none in absurd (cc)

-- bytes are one script
one_script : (read : Result Script Refusal) (a b : Script) → read ≡ Ok a → read ≡ Ok b → a ≡ b
one_script read a b left right = let same : ◌≡◌ {A = Result Script Refusal} (Ok a) (Ok b) = sym left ∙ right in cc

one_refusal : (read : Result Script Refusal) (a b : Refusal) → read ≡ Err a → read ≡ Err b → a ≡ b
one_refusal read a b left right = let same : ◌≡◌ {A = Result Script Refusal} (Err a) (Err b) = sym left ∙ right in cc

refused_where : (status : Status) (source sink : Seen) → RunSays status source sink → RefusedWhere status source
refused_where Done source sink says = told source.before _ _ says.read.bytes (λ bytes p refusal small none. absurd (script_or_refusal _ p.1.0 refusal p.1.1 none))
refused_where Usage source sink says = absurd says
refused_where (Refused line cause) source sink says = told source.before _ _ says.read.bytes (λ bytes p refusal small none.
    inl (ap (λ (r : Refusal). Refused r.line r.cause) (one_refusal _ (record { line = line; cause = cause }) refusal p.1 none)))
refused_where ReadFault source sink says = always source.before _ (λ bytes refusal small none. inr (inl refl))
refused_where WriteFault source sink says = told source.before _ _ says.read.bytes (λ bytes p refusal small none. absurd (script_or_refusal _ p.1.0 refusal p.1.1 none))
refused_where (Clash line old new) source sink says = told source.before _ _ says.read.bytes (λ bytes p refusal small none. absurd (script_or_refusal _ p.1.0 refusal p.1.1 none))
refused_where Memory source sink says = always source.before _ (λ bytes refusal small none. inr (inr refl))
refused_where TooLarge source sink says = told source.before _ _ says.large (λ bytes large refusal small none. absurd (omega arith))

too_large_where : (status : Status) (source sink : Seen) → RunSays status source sink → TooLargeWhere status source
too_large_where Done source sink says = told source.before _ _ says.read.bytes (λ bytes p large. absurd (omega (arith, p.0)))
too_large_where Usage source sink says = absurd says
too_large_where (Refused line cause) source sink says = told source.before _ _ says.read.bytes (λ bytes p large. absurd (omega (arith, p.0)))
too_large_where ReadFault source sink says = always source.before _ (λ bytes large. inr (inl refl))
too_large_where WriteFault source sink says = told source.before _ _ says.read.bytes (λ bytes p large. absurd (omega (arith, p.0)))
too_large_where (Clash line old new) source sink says = told source.before _ _ says.read.bytes (λ bytes p large. absurd (omega (arith, p.0)))
too_large_where Memory source sink says = always source.before _ (λ bytes large. inr (inr refl))
too_large_where TooLarge source sink says = always source.before _ (λ bytes large. inl refl)

complete_where : (status : Status) (source sink : Seen) → RunSays status source sink → CompleteWhere status source sink
complete_where Done source sink says reads writes = always source.before _ (λ bytes script small is clear. inl refl)
complete_where Usage source sink says reads writes = absurd says
complete_where (Refused line cause) source sink says reads writes = told source.before _ _ says.read.bytes (λ bytes p script small is clear. absurd (script_or_refusal _ script (record { line = line; cause = cause }) is p.1))
complete_where ReadFault source sink says reads writes = absurd (reads says.failed)
complete_where WriteFault source sink says reads writes = absurd (writes says.failed)
complete_where (Clash line old new) source sink says reads writes = told source.before _ _ says.read.bytes (λ bytes p script small is clear.
    absurd (clash_or_none sha1 script line old new (subst (λ s. IsFirstClash sha1 s line old new) (one_script _ p.1.0 script p.1.1 is) p.1.3) clear))
complete_where Memory source sink says reads writes = always source.before _ (λ bytes script small is clear. inr refl)
complete_where TooLarge source sink says reads writes = told source.before _ _ says.large (λ bytes large script small is clear. absurd (omega arith))

clash_where : (status : Status) (source sink : Seen) → RunSays status source sink → ClashWhere status source sink
clash_where Done source sink says reads writes = told source.before _ _ says.read.bytes (λ bytes p script small is clashed.
    absurd (clashed (subst (λ s. NoClash sha1 (named sha1 s (reverse s.lines))) (one_script _ p.1.0 script p.1.1 is) p.1.3)))
clash_where Usage source sink says reads writes = absurd says
clash_where (Refused line cause) source sink says reads writes = told source.before _ _ says.read.bytes (λ bytes p script small is clashed. absurd (script_or_refusal _ script (record { line = line; cause = cause }) is p.1))
clash_where ReadFault source sink says reads writes = absurd (reads says.failed)
clash_where WriteFault source sink says reads writes = absurd (writes says.failed)
clash_where (Clash line old new) source sink says reads writes = always source.before _ (λ bytes script small is clashed. inl tt)
clash_where Memory source sink says reads writes = always source.before _ (λ bytes script small is clashed. inr refl)
clash_where TooLarge source sink says reads writes = told source.before _ _ says.large (λ bytes large script small is clashed. absurd (omega arith))

-- where the words are none that the program knows
usage_only : (status : Status) (source sink : Seen) → UsageSays status source sink → status ≡ Usage
usage_only Usage source sink says = refl
usage_only Done source sink says = absurd says
usage_only (Refused line cause) source sink says = absurd says
usage_only ReadFault source sink says = absurd says
usage_only WriteFault source sink says = absurd says
usage_only (Clash line old new) source sink says = absurd says
usage_only Memory source sink says = absurd says
usage_only TooLarge source sink says = absurd says

pub remains : (task : Task) (status : Status) (source sink : Seen) → SaysFor task status source sink → RemainsFor task status source sink
remains tasks.Run status source sink says = record {
  refused = refused_where status source sink says;
  too_large = too_large_where status source sink says;
  complete = complete_where status source sink says;
  clash = clash_where status source sink says;
}
remains tasks.Usage status source sink says = usage_only status source sink says

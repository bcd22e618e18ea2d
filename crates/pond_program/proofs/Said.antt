-- The answers of a run of a text, as those of `run`.
use Rattle.std.proofs.Common.{◌≡◌, ◌++◌, ℕ, List, Option, None, Some, Err, IfSome, sym, ◌∙◌, ap, subst, append-nil, inr}
use Rattle.std.specs.Io.KnownBytes.{Consumes, IsAtEnd}
use Rattle.script_grammar.specs.Script.{script_of}
use Rattle.pond_program.specs.declared.status.Status.{Status}
use Rattle.pond_program.specs.declared.status.Status.TheVariants.{Done, Usage, Refused, ReadFault, WriteFault, Clash, Memory, TooLarge}
use Rattle.pond_program.specs.Runs.{TextSays, TakesText, TakesUntilClash, TakesPrefix, TakesAtMost}
use Rattle.pond_base.specs.Outside.{Seen, IsSound}
use Rattle.pond_program.specs.Table.{RunSays, IsSmall, ReadsAll}

-- these bytes are all that a source had, where it tells them
abbrev pub IsAll : Option (List ℕ) → List ℕ → Type 0
IsAll known given = IfSome known (λ bytes. bytes ≡ given)

-- what a source gave up to its end is all that it had
pub gave_all : (before after : Option (List ℕ)) (given : List ℕ) → Consumes before after given → IsAtEnd after → IsAll before given
gave_all None after given consumed ended = tt
gave_all (Some x) None given consumed ended = absurd consumed
gave_all (Some x) (Some y) given consumed ended = consumed ∙ ap (λ rest. given ++ rest) ended ∙ append-nil given

of_all : (P : List ℕ → Type 0) (known : Option (List ℕ)) (given : List ℕ) → IsAll known given → P given → IfSome known P
of_all P None given all p = tt
of_all P (Some x) given all p = subst P (sym all) p

-- what holds of the bytes that were given, read whole, holds of all
pub record IsRead (source : Seen) (given : List ℕ) : Type 0 where
  pub ended : IsAtEnd source.after
  pub sound : IsSound source
  pub all : IsAll source.before given
  pub small : IsSmall given

reads_all : (source : Seen) (given : List ℕ) (P : List ℕ → Type 0) → IsRead source given → P given → ReadsAll source P
reads_all source given P read p = record {
  ended = read.ended;
  sound = read.sound;
  bytes = of_all (λ bytes. IsSmall bytes × P bytes) source.before given read.all (read.small, p);
}

pub run_says : (status : Status) (source sink : Seen) (given : List ℕ) → IsRead source given → TextSays status given sink → RunSays status source sink
run_says Done source sink given read says = record { read = reads_all source given (TakesText sink) read says.0; sound = says.1 }
run_says Usage source sink given read says = absurd says
run_says (Refused line cause) source sink given read says = record {
  read = reads_all source given (λ bytes. script_of bytes ≡ Err (record { line = line; cause = cause })) read says.refused;
  unwritten = says.unwritten;
}
run_says ReadFault source sink given read says = absurd says
run_says WriteFault source sink given read says = record { read = reads_all source given (TakesPrefix sink) read says.0; failed = says.1 }
run_says (Clash line old new) source sink given read says = record { read = reads_all source given (TakesUntilClash sink line old new) read says.0; sound = says.1 }
run_says Memory source sink given read says = record {
  unfailed = (read.sound, says.1);
  written = inr (reads_all source given (TakesAtMost sink) read says.0);
}
run_says TooLarge source sink given read says = absurd says

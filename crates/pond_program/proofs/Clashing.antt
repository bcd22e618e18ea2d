-- A script whose strings do not clash has no first clash.
use Rattle.std.proofs.Common.{◌≡◌, inl, inr, ℕ, List, [], ◌∷◌, ◌++◌, reverse, Contains, sym, ◌∙◌, ap, subst, append_assoc, append-nil}
use Rattle.std.proofs.lemmas.List.{reverse-append, reverse-reverse}
use Rattle.std.proofs.lemmas.List.Elements.{Contains-append_left}
use Rattle.script_terms.specs.declared.script.Script.{Script}
use Rattle.text_model.specs.Clashes.{NoClash, IsClash, IsFirstClash}
use Rattle.text_model.specs.Named.{named, line_strings}
use Rattle.text_model.specs.Requests.{Numbered}

-- what is named up to some lines is named up to later ones
named_within : (h : List ℕ → List ℕ) (script : Script) (later before : List Numbered) (s : List ℕ) → Contains (named h script before) s → Contains (named h script (later ++ before)) s
named_within h script [] before s c = c
named_within h script (line ∷ later) before s c =
    Contains-append_left (named h script (later ++ before)) (line_strings h script (later ++ before) line) s (named_within h script later before s c)

-- strings do not clash among more that do not
no_clash_within : (h : List ℕ → List ℕ) (script : Script) (later before : List Numbered) (old new : List ℕ) → IsClash h (named h script before) old new → NoClash h (named h script (later ++ before)) → ⊥
no_clash_within h script later before old new clash none =
    clash.different (none old new (named_within h script later before old clash.old_named) (named_within h script later before new clash.new_named) clash.same)

turned : (before : List Numbered) (at : Numbered) (behind : List Numbered) → reverse (reverse before ++ at ∷ behind) ≡ reverse behind ++ at ∷ before
turned before at behind =
    reverse-append (reverse before) (at ∷ behind) ∙ ap (λ xs. xs ++ reverse (reverse before)) (reverse-append (at ∷ []) behind)
    ∙ ap (λ xs. (reverse behind ++ at ∷ []) ++ xs) (reverse-reverse before) ∙ append_assoc (reverse behind) (at ∷ []) before

pub clash_or_none : (h : List ℕ → List ℕ) (script : Script) (line : ℕ) (old new : List ℕ) → IsFirstClash h script line old new → NoClash h (named h script (reverse script.lines)) → ⊥
clash_or_none h script line old new (inl start) none =
    no_clash_within h script (reverse script.lines) [] old new start.clash (subst (λ lines. NoClash h (named h script lines)) (sym (append-nil (reverse script.lines))) none)
clash_or_none h script line old new (inr first) none =
    no_clash_within h script (reverse first.behind) (first.at ∷ first.before) old new first.clash
    (subst (λ lines. NoClash h (named h script lines)) (ap reverse (sym first.split) ∙ turned first.before first.at first.behind) none)

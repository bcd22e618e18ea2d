-- The labels of events, named one after the other.
use Rattle.std.proofs.Common.{◌≡◌, ◌<◌, ◌≤◌, ◌+◌, inl, inr, ℕ, List, ◌++◌, length, take, get_or, Contains, sym, ◌∙◌, ap, subst, arith, append_assoc}
use Rattle.std.specs.List.{flat_map}
use Rattle.std.proofs.lemmas.Grind.{common_steps}
use Rattle.std.proofs.lemmas.List.Elements.{Contains-append_left, Contains-append_right, Contains-append_cases}
use Rattle.block_names.specs.declared.fault.NameFault.{NameFault}
use Rattle.script_requests.specs.Holding.{IsClashOf}
use Rattle.script_requests.proofs.Holds.{parts_more, parts_within, clash_more}
use Rattle.text_model.specs.Named.{label_strings}
use Rattle.text_model.specs.Requests.{Numbered}

pub labels_more : (strings : List (List ℕ)) (lines : List Numbered) (i : ℕ) (line : Numbered) → i < length lines → line ≡ get_or lines i line
    → (strings ++ flat_map label_strings (take i lines)) ++ label_strings line ≡ strings ++ flat_map label_strings (take (i + 1) lines)
labels_more strings lines i line here is =
    append_assoc strings (flat_map label_strings (take i lines)) (label_strings line) ∙ ap (λ ss. strings ++ ss) (sym (parts_more label_strings lines i line here is))

pub labels_clash : (h : List ℕ → List ℕ) (strings : List (List ℕ)) (lines : List Numbered) (i : ℕ) (line : Numbered) (fault : NameFault) → i < length lines → line ≡ get_or lines i line
    → IsClashOf h ((strings ++ flat_map label_strings (take i lines)) ++ label_strings line) fault → IsClashOf h (strings ++ flat_map label_strings lines) fault
labels_clash h strings lines i line fault here is clash =
    clash_more h (strings ++ flat_map label_strings (take (i + 1) lines)) (strings ++ flat_map label_strings lines) fault
    (λ s c. elim (Contains-append_cases strings (flat_map label_strings (take (i + 1) lines)) s c) as (λ _. Contains (strings ++ flat_map label_strings lines) s) [
      | inl l ↦ Contains-append_left strings (flat_map label_strings lines) s l
      | inr r ↦ Contains-append_right strings (flat_map label_strings lines) s (parts_within label_strings lines (i + 1) s r)
    ])
    (subst (λ ss. IsClashOf h ss fault) (labels_more strings lines i line here is) clash)

pub all_lines : (lines : List Numbered) (i : ℕ) → length lines ≤ i → take i lines ≡ lines
all_lines lines i most = grind (arith, common_steps)

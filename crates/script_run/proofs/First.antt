-- The state before the first line.
use Rattle.std.proofs.Common.{◌≡◌, ℕ, List, [], ◌++◌, Contains, None, Some, sym, ◌∙◌}
use Rattle.std.specs.FinMap as map
use Rattle.std.specs.Ordering.{nat_cmp}
use Rattle.std.specs.Cmp.Lexicographic.{slice_cmp}
use Rattle.std.proofs.lemmas.List.Elements.{Contains-append_left}
use Rattle.block_names.specs.Held.{Held}
use Rattle.block_names.specs.Growth.{Grew}
use Rattle.block_names.specs.declared.fault.NameFault.{NameFault}
use Rattle.pond_world.specs.Sites.{IsClashAfter}
use Rattle.script_requests.specs.Holding.{HoldsAll, HoldsJust, IsClashOf}
use Rattle.script_requests.proofs.Holds.{holds_more, clash_of, clash_more, all_none}

-- a book that is new holds no string
holds_none : (h : List ℕ → List ℕ) → HoldsJust h map.empty []
holds_none h = record {
  all = all_none h map.empty;
  only = λ name s e. let bad : None ≡ Some s = sym (map.get-empty (slice_cmp nat_cmp) name) ∙ e in absurd (cc);
}

-- a book in which some strings were named from the start
pub holds_first : (h : List ℕ → List ℕ) (held : Held) (strings : List (List ℕ)) → Grew h map.empty (Contains strings) held → HoldsAll h held strings → HoldsJust h held strings
holds_first h held strings grew all = holds_more h map.empty held [] strings (holds_none h) grew all

-- a clash of them is one among more
pub first_clash : (h : List ℕ → List ℕ) (strings more : List (List ℕ)) (fault : NameFault) → IsClashAfter h map.empty (Contains strings) fault → IsClashOf h (strings ++ more) fault
first_clash h strings more fault after =
    clash_more h strings (strings ++ more) fault (λ s c. Contains-append_left strings more s c) (clash_of h map.empty after.0 [] strings fault (holds_none h) after.1 after.2)

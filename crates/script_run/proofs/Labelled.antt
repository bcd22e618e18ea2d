-- The labels of lines in order, with the names of their objects.
use Rattle.std.proofs.Common.{◌≡◌, ◌||◌, Ordering, Less, Equal, Greater, ◌<◌, length, get_or, inl, inr, ℕ, Bool, true, false, cond, List, [], ◌∷◌, map, reverse, take, ◌+◌, slice_get, Some, Contains, refl, sym, ap, ◌∙◌, subst}
use Rattle.std.specs.Ordering.{nat_cmp, is_eq, match_ordering}
use Rattle.std.specs.Cmp.Lexicographic.{slice_cmp}
use Rattle.std.specs.BTreeSet.{insert_key}
use Rattle.std.specs.BTreeMap.{insert_entry, is_at}
use Rattle.std.specs.Map.{lookup}
use Rattle.std.specs.List.{list_any, flat_map}
use Rattle.std.proofs.lemmas.Bool.{or_left, or_right}
use Rattle.std.proofs.lemmas.List.{reverse-append}
use Rattle.std.proofs.lemmas.List.Elements.{Contains-append_left, Contains-append_right}
use Rattle.std.proofs.lemmas.Map.Lookups.{exact_bytes}
use Rattle.std.proofs.lemmas.Map.Text.{is_eq-slice_cmp}
use Rattle.std.proofs.lemmas.Slice.Eq.{bytes_eq-Decides}
use Rattle.object_model.specs.Trees.{object_name}
use Rattle.ring_model.proofs.History.{same_some}
use Rattle.ring_model.proofs.Lists.{there_none, there_first, there_cases, there_flat, at_in}
use Rattle.script_requests.proofs.Holds.{take_one_more}
use Rattle.text_model.specs.Labels.{labels_in, in_order, labels_of}
use Rattle.text_model.specs.Requests.{Numbered}
use Rattle.script_run.specs.Labels.{AreLabels, HasName}

abbrev compare : List ℕ → List ℕ → Ordering
compare = slice_cmp nat_cmp

module _ {X : Type 0} (f : List ℕ → X) where
  abbrev with_value : List ℕ → List ℕ × X
  with_value label = (label, f label)

  -- a label put in its place, with its value
  pub put_in : (labels : List (List ℕ)) (label : List ℕ) → insert_entry compare (map with_value labels) label (f label) ≡ map with_value (insert_key compare labels label)
  put_in [] label = refl
  put_in (other ∷ labels) label =
      elim (compare label other) as (λ o. compare label other ≡ o
      → match_ordering o ((label, f label) ∷ map with_value (other ∷ labels)) ((other, f label) ∷ map with_value labels) (with_value other ∷ insert_entry compare (map with_value labels) label (f label))
      ≡ map with_value (match_ordering o (label ∷ other ∷ labels) (other ∷ labels) (other ∷ insert_key compare labels label))) [
        | Less ↦ λ e. refl
        | Equal ↦ λ e. ap (λ (l : List ℕ). (other, f l) ∷ map with_value labels) (exact_bytes label other e)
        | Greater ↦ λ e. ap (λ es. with_value other ∷ es) (put_in labels label)
      ] refl

  -- and found there
  pub found_in : (labels : List (List ℕ)) (label : List ℕ) → list_any (is_at (compare label)) labels ≡ true → lookup (is_at (compare label)) (map with_value labels) ≡ Some (f label)
  found_in [] label there = absurd (cc there)
  found_in (other ∷ labels) label there =
      elim (compare label other) as (λ o. compare label other ≡ o → (is_eq o || list_any (is_at (compare label)) labels) ≡ true → cond (is_eq o) (Some (f other)) (lookup (is_at (compare label)) (map with_value labels)) ≡ Some (f label)) [
        | Less ↦ λ e t. found_in labels label t
        | Equal ↦ λ e t. ap (λ l. Some (f l)) (sym (exact_bytes label other e))
        | Greater ↦ λ e t. found_in labels label t
      ] refl there

has_more : (p : List ℕ → Bool) (labels : List (List ℕ)) (label : List ℕ) → list_any p labels ≡ true → list_any p (insert_key compare labels label) ≡ true
has_more p [] label there = absurd (cc there)
has_more p (other ∷ labels) label there =
    elim (compare label other) as (λ o. list_any p (match_ordering o (label ∷ other ∷ labels) (other ∷ labels) (other ∷ insert_key compare labels label)) ≡ true) [
      | Less ↦ or_right (p label) (list_any p (other ∷ labels)) there
      | Equal ↦ there
      | Greater ↦ elim (p other) as (λ b. (b || list_any p labels) ≡ true → (b || list_any p (insert_key compare labels label)) ≡ true) [
        | true ↦ λ t. refl
        | false ↦ λ t. has_more p labels label t
      ] there
    ]

at_itself : (label : List ℕ) → is_at (compare label) label ≡ true
at_itself label = is_eq-slice_cmp label label ∙ (bytes_eq-Decides label label).1 refl

has_it : (labels : List (List ℕ)) (label : List ℕ) → list_any (is_at (compare label)) (insert_key compare labels label) ≡ true
has_it [] label = or_left (is_at (compare label) label) false (at_itself label)
has_it (other ∷ labels) label =
    elim (compare label other) as (λ o. compare label other ≡ o → list_any (is_at (compare label)) (match_ordering o (label ∷ other ∷ labels) (other ∷ labels) (other ∷ insert_key compare labels label)) ≡ true) [
      | Less ↦ λ e. or_left (is_at (compare label) label) (list_any (is_at (compare label)) (other ∷ labels)) (at_itself label)
      | Equal ↦ λ e. or_left (is_at (compare label) other) (list_any (is_at (compare label)) labels) (ap is_eq e)
      | Greater ↦ λ e. or_right (is_at (compare label) other) (list_any (is_at (compare label)) (insert_key compare labels label)) (has_it labels label)
    ] refl

-- each of some labels stands among them in order
pub there_in_order : (labels : List (List ℕ)) (label : List ℕ) → Contains labels label → list_any (is_at (compare label)) (in_order labels) ≡ true
there_in_order [] label there = absurd (there_none label there)
there_in_order (other ∷ labels) label there = elim (there_cases other labels label there) [
  | inl e ↦ subst (λ l. list_any (is_at (compare label)) (insert_key compare (in_order labels) l) ≡ true) (sym e) (has_it (in_order labels) label)
  | inr t ↦ has_more (is_at (compare label)) (in_order labels) other (there_in_order labels label t)
]

-- ---- the labels of lines

-- a label more
pub labels_more : (h : List ℕ → List ℕ) (old new : List (List ℕ × List ℕ)) (lines : List Numbered) (label : List ℕ) → new ≡ insert_entry compare old label (object_name h label) → AreLabels h old lines
    → new ≡ map (λ l. (l, object_name h l)) (insert_key compare (labels_of lines) label)
labels_more h old new lines label is were = is ∙ ap (λ es. insert_entry compare es label (object_name h label)) were ∙ put_in (object_name h) (labels_of lines) label

there_reversed : {X : Type 0} (xs : List X) (x : X) → Contains xs x → Contains (reverse xs) x
there_reversed [] x there = there
there_reversed (y ∷ xs) x there =
    subst (λ ys. Contains ys x) (sym (reverse-append (y ∷ []) xs)) (elim (there_cases y xs x there) [
      | inl e ↦ Contains-append_right (reverse xs) (y ∷ []) x (subst (Contains (y ∷ [])) e (there_first y []))
      | inr t ↦ Contains-append_left (reverse xs) (y ∷ []) x (there_reversed xs x t)
    ])

-- the name that stands beside a label of a line
pub has_name : (h : List ℕ → List ℕ) (entries : List (List ℕ × List ℕ)) (lines : List Numbered) (line : Numbered) (label : List ℕ) → AreLabels h entries (reverse lines) → Contains lines line → Contains (labels_in line.1) label
    → HasName entries label (object_name h label)
has_name h entries lines line label are among in_line =
    let labels = flat_map (λ (l : Numbered). labels_in l.1) (reverse lines) in
    let there : Contains labels label = there_flat (λ (l : Numbered). labels_in l.1) (reverse lines) line label (there_reversed lines line among) in_line in
    ap (λ es. lookup (is_at (compare label)) es) are ∙ found_in (object_name h) (in_order labels) label (there_in_order labels label there)

-- and beside one of the line at a place of a script
pub name_here : (h : List ℕ → List ℕ) (entries : List (List ℕ × List ℕ)) (lines : List Numbered) (at : ℕ) (line : Numbered) (label : List ℕ) → AreLabels h entries (reverse lines) → slice_get lines at ≡ Some line → Contains (labels_in line.1) label
    → HasName entries label (object_name h label)
name_here h entries lines at line label are here in_line = has_name h entries lines line label are (at_in lines at line here) in_line

-- there is one name beside a label
pub one_name : (entries : List (List ℕ × List ℕ)) (label name other : List ℕ) → HasName entries label name → HasName entries label other → name ≡ other
one_name entries label name other a b = same_some name other (sym a ∙ b)

-- the labels of one line more, where it has none or one is put in its place
pub labels_next : (h : List ℕ → List ℕ) (entries : List (List ℕ × List ℕ)) (lines : List Numbered) (i : ℕ) (line : Numbered) → i < length lines → line ≡ get_or lines i line → AreLabels h entries (line ∷ reverse (take i lines))
    → AreLabels h entries (reverse (take (i + 1) lines))
labels_next h entries lines i line here is are = subst (AreLabels h entries) (sym (ap reverse (take_one_more lines i line here is) ∙ reverse-append (take i lines) (line ∷ []))) are

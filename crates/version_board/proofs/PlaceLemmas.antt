-- The place of the last entry of a label.
use Rattle.std.proofs.Common.{◌≡◌, ℕ, Bool, true, false, cond, List, [], ◌∷◌, ◌++◌, length, Option, Some, None, slice_get, option_map, refl, ap, sym, ◌∙◌}
use Rattle.std.specs.Ordering.{nat_cmp}
use Rattle.std.specs.Str.{bytes_eq}
use Rattle.std.specs.Cmp.{unsigned_ties}
use Rattle.std.specs.Cmp.Lexicographic.{slice_cmp, lists_ties}
use Rattle.std.specs.BTreeMap.{is_at}
use Rattle.std.specs.Map.{lookup}
use Rattle.board_model.specs.Boards.{Entry, is_of, last_of}
use Rattle.board_model.proofs.Prefixes.{prefix_get}
use Rattle.board_model.proofs.Lasts.{last_more}
use Rattle.version_board.specs.Places.{ArePlaces}

-- what a map has under a label
abbrev pub under : List (List ℕ × ℕ) → List ℕ → Option ℕ
under places label = lookup (is_at (slice_cmp nat_cmp label)) places

pub no_places : (places : List (List ℕ × ℕ)) → places ≡ [] → ArePlaces places []
no_places places none label = ap (λ (p : List (List ℕ × ℕ)). option_map (slice_get {X = Entry} []) (under p label)) none

pub same_places : (old new : List (List ℕ × ℕ)) (list : List Entry) → new ≡ old → ArePlaces old list → ArePlaces new list
same_places old new list same are label = ap (λ (p : List (List ℕ × ℕ)). option_map (slice_get list) (under p label)) same ∙ are label

within_some : {X : Type 0} (a b : Option X) → Some a ≡ option_map Some b → a ≡ b
within_some a None e = absurd (cc e)
within_some a (Some x) e = cc e

none_within : {X : Type 0} (b : Option X) → None ≡ option_map {T = X} Some b → b ≡ None
none_within None e = refl
none_within (Some x) e = absurd (cc e)

-- the entry at the place under a label is the last one of it
pub at_place : (places : List (List ℕ × ℕ)) (list : List Entry) (label : List ℕ) (at : ℕ) → ArePlaces places list → under places label ≡ Some at → slice_get list at ≡ last_of label list
at_place places list label at are is = within_some (slice_get list at) (last_of label list) (ap (option_map (slice_get list)) (sym is) ∙ are label)

-- where nothing is under a label, the list has no entry of it
pub no_place : (places : List (List ℕ × ℕ)) (list : List Entry) (label : List ℕ) → ArePlaces places list → under places label ≡ None → last_of label list ≡ None
no_place places list label are is = none_within (last_of label list) (ap (option_map (slice_get list)) (sym is) ∙ are label)

get_last : (list : List Entry) (entry : Entry) → slice_get (list ++ entry ∷ []) (length list) ≡ Some entry
get_last [] entry = refl
get_last (x ∷ list) entry = get_last list entry

-- what was found in a list is found in it with one entry more
found_longer : (place : Option ℕ) (list : List Entry) (entry : Entry) (last : Option Entry) → option_map (slice_get list) place ≡ option_map Some last → option_map (slice_get (list ++ entry ∷ [])) place ≡ option_map Some last
found_longer None list entry last e = e
found_longer (Some at) list entry None e = absurd (cc e)
found_longer (Some at) list entry (Some x) e = let here : slice_get list at ≡ Some x = cc e in ap Some (prefix_get list (list ++ entry ∷ []) at x (entry ∷ [], refl) here)

place_by : (same : Bool) (place : Option ℕ) (list : List Entry) (entry : Entry) (last : Option Entry) → option_map (slice_get list) place ≡ option_map Some last
    → option_map (slice_get (list ++ entry ∷ [])) (cond same (Some (length list)) place) ≡ option_map Some (cond same (Some entry) last)
place_by true place list entry last e = ap Some (get_last list entry)
place_by false place list entry last e = found_longer place list entry last e

-- with an entry behind the others, its place is under its label
pub one_more : (old new : List (List ℕ × ℕ)) (list : List Entry) (entry : Entry)
    → ((label : List ℕ) → under new label ≡ cond (is_at (slice_cmp nat_cmp entry.label) label) (Some (length list)) (under old label))
    → ArePlaces old list → ArePlaces new (list ++ entry ∷ [])
one_more old new list entry put are label =
    let test : bytes_eq entry.label label ≡ is_at (slice_cmp nat_cmp entry.label) label = lists_ties nat_cmp unsigned_ties entry.label label in
    ap (option_map (slice_get (list ++ entry ∷ []))) (put label ∙ ap (λ b. cond b (Some (length list)) (under old label)) (sym test))
    ∙ place_by (is_of label entry) (under old label) list entry (last_of label list) (are label)
    ∙ ap (option_map Some) (sym (last_more label list entry))

-- the same, by what was put into the map
pub one_put : (old new : List (List ℕ × ℕ)) (list : List Entry) (entry : Entry) (key : List ℕ) (at : ℕ) → key ≡ entry.label → at ≡ length list
    → ((label : List ℕ) → under new label ≡ cond (is_at (slice_cmp nat_cmp key) label) (Some at) (under old label))
    → ArePlaces old list → ArePlaces new (list ++ entry ∷ [])
one_put old new list entry key at same here put are =
    one_more old new list entry (λ label. put label ∙ λ i. cond (is_at (slice_cmp nat_cmp (same i)) label) (Some (here i)) (under old label)) are

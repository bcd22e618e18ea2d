-- What the definitions of a board come to.
use Rattle.std.specs.Prelude.{◌≡◌, ◌≢◌, ◌↔◌, ◌⊎◌, ℕ, List, [], ◌∷◌, ◌++◌, Option, Some, None, All, Contains, slice_get, slice_set}
use Rattle.board_model.specs.Boards.{Entry, last_of}
use Rattle.board_model.specs.Rule.{Published, GoesOn, Keeps, Sees}

-- no entry of a list has a label
abbrev pub HasNone : List ℕ → List Entry → Type 0
HasNone label list = All (λ (e : Entry). e.label ≢ label) list

-- an entry of a list has a label, and behind it none has it
abbrev pub IsLast : List ℕ → List Entry → Entry → Type 0
IsLast label list entry = (before after : List Entry) × (list ≡ before ++ entry ∷ after) × (entry.label ≡ label) × HasNone label after

abbrev pub LastEntriesAreLast : Type 0
LastEntriesAreLast = (label : List ℕ) (list : List Entry) (entry : Entry) → (last_of label list ≡ Some entry) ↔ IsLast label list entry

abbrev pub NoEntryIsLastOfNone : Type 0
NoEntryIsLastOfNone = (label : List ℕ) (list : List Entry) → (last_of label list ≡ None) ↔ HasNone label list

abbrev pub LooksKeepTheRule : Type 0
LooksKeepTheRule = (before after : Published) (all : List (Option Published)) (at : ℕ) (seen : Option Published)
    → Keeps before all → slice_get all at ≡ Some seen → GoesOn after before → Sees seen before after (Some after) × Keeps after (slice_set all at (Some after))

abbrev pub NewcomersKeepTheRule : Type 0
NewcomersKeepTheRule = (published : Published) (all : List (Option Published)) → Keeps published all → Keeps published (all ++ None ∷ [])

abbrev pub TellingKeepsTheRule : Type 0
TellingKeepsTheRule = (published : Published) (all : List (Option Published)) (from to : ℕ) (seen : Option Published)
    → Keeps published all → slice_get all from ≡ Some seen → Keeps published (slice_set all to seen)

abbrev pub ReadersSeeOneList : Type 0
ReadersSeeOneList = (published one other : Published) (all : List (Option Published))
    → Keeps published all → Contains all (Some one) → Contains all (Some other) → GoesOn one other ⊎ GoesOn other one

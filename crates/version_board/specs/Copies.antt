-- A copy of the board, as contracts see it, and the rule of its readers.
use Rattle.std.specs.Prelude.{◌≡◌, List, Option}
use Rattle.board_model.specs.Boards.{Entry}
use Rattle.board_model.specs.Rule.{Published, Keeps, Sees}

-- its entries, and a list of the history
pub record Copy : Type 0 where
  pub list : List Entry
  pub front : Published

-- the entries are the list of the history
abbrev pub IsWhole : Copy → Type 0
IsWhole copy = copy.front.list ≡ copy.list

-- the rule: the copy that readers take is whole, and its list goes on from each one that somebody saw last
abbrev pub Holds : Copy → List (Option Published) → Type 0
Holds copy seen = IsWhole copy × Keeps copy.front seen

-- a look, or a publishing
abbrev pub Looks : Option Published → Copy → Copy → Option Published → Type 0
Looks seen before after now = IsWhole after × Sees seen before.front after.front now

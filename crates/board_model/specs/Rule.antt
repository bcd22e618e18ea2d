-- What is kept while one thread publishes and others read.
use Rattle.std.specs.Prelude.{◌≡◌, List, Option, Some, None, All, ⊤}
use mathlib.Core.List.{IsPrefix}
use Rattle.logbook.specs.Pages.{Book}
use Rattle.board_model.specs.Boards.{Entry}

-- a list that was published, and on which board: a board is known by the name of its history
pub record Published : Type 0 where
  pub board : Book
  pub list : List Entry

-- a list goes on from an earlier one: it is of the same board, and begins with it
abbrev pub GoesOn : Published → Published → Type 0
GoesOn later earlier = (later.board ≡ earlier.board) × IsPrefix earlier.list later.list

-- a list goes on from the one that somebody saw last; from what a newcomer knows each one does
abbrev pub IsSeen : Published → Option Published → Type 0
IsSeen published None = ⊤
IsSeen published (Some seen) = GoesOn published seen

-- The rule: the published list goes on from each one that somebody saw last.
abbrev pub Keeps : Published → List (Option Published) → Type 0
Keeps published seen = All (IsSeen published) seen

-- One looks, or publishes: the published list goes on from what it was and from what was seen, and is then seen.
pub record Sees (seen : Option Published) (before after : Published) (now : Option Published) : Type 0 where
  pub grown : GoesOn after before
  pub later : IsSeen after seen
  pub found : now ≡ Some after

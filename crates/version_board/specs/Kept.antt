-- What the types of the ends of a board keep.
use Rattle.std.specs.Prelude.{◌≡◌, ℕ, ◌++◌, Option, Some, None, length}
use mathlib.Core.List.{IsPrefix}
use Rattle.logbook.specs.Pages.{Named}
use Rattle.board_model.specs.Rule.{Published, GoesOn}
use Rattle.version_board.specs.Changes.{added}
use Rattle.version_board.specs.Ends.{PenView, DoorView}
use Rattle.version_board.specs.Histories.{word_of}

-- The copy that readers take is the published list. The history is a beginning of all entries, and the count is theirs.
pub record IsWritten (pen : PenView) (word : Named) (log : Published) (count : ℕ) : Type 0 where
  pub front : pen.copy.front ≡ record { board = log.board; list = pen.copy.list }
  pub counter : word ≡ word_of log.board
  pub history : IsPrefix log.list (pen.copy.list ++ added pen.changes)
  pub total : count ≡ length (pen.copy.list ++ added pen.changes)

-- a writer has a pen, and the rest fits it
abbrev pub IsWriter : Option PenView → Named → Published → ℕ → Type 0
IsWriter None word log count = ⊥
IsWriter (Some pen) word log count = IsWritten pen word log count

-- something was seen that goes on from a list
abbrev pub HasSeen : Option Published → Published → Type 0
HasSeen None list = ⊥
HasSeen (Some sight) list = GoesOn sight list

-- a reader has a door, through which it saw a list that goes on from the last one of which it told
abbrev pub IsReader : Option DoorView → Published → Published → Type 0
IsReader None seen told = ⊥
IsReader (Some door) seen told = HasSeen door.sight seen × (told.board ≡ seen.board)

-- What a reader is told, and what is left of it.
use Rattle.std.specs.Prelude.{◌≡◌, ◌⊎◌, ℕ, List, [], Option, Some, None, length}
use mathlib.Core.List.{IsPrefix}
use Rattle.pond_base.specs.Outside.{after_fault}
use Rattle.logbook.specs.Pages.{Book}
use Rattle.board_model.specs.Boards.{Entry, last_of}
use Rattle.board_model.specs.Rule.{Published}
use Rattle.version_board.specs.Ends.{ReaderView}
use Rattle.version_board.specs.declared.read.BoardRead.{BoardRead}
use Rattle.version_board.specs.declared.read.BoardFault.{BoardFault}
use Rattle.version_board.specs.declared.read.BoardFault.TheVariants.{Memory, Shut}

-- an answer is the last entry of a label in a list, and the length of the list, or none where the list has no entry of it
abbrev pub Answers : List ℕ → List Entry → Option BoardRead → Type 0
Answers label list None = last_of label list ≡ None
Answers label list (Some read) = (last_of label list ≡ Some record { label = label; version = read.version.0; bytes = read.bytes.items }) × (read.seen ≡ length list)

-- A reader saw a list of its board, which begins with the one that it saw before and with the longest of which it was told.
pub record SawMore (before after : ReaderView) : Type 0 where
  pub board : after.board ≡ before.board
  pub seen : IsPrefix before.seen after.seen
  pub told : IsPrefix before.told after.seen
  pub kept : after.told ≡ before.told
  pub shut : after.shut ≡ before.shut

-- where memory ran out the reader saw a list all the same; where it was turned away its count tells, and nothing else changed
abbrev pub AfterFault : ReaderView → ReaderView → BoardFault → Type 0
AfterFault before after Memory = SawMore before after
AfterFault before after Shut = after ≡ record before { shut = after_fault before.shut }

-- A reader has learnt a list: it knows the longer of the one of which it was told before and of this one, which both begin it.
pub record Learnt (before after : ReaderView) (note : Published) : Type 0 where
  pub same : after ≡ record before { told = after.told }
  pub longer : (after.told ≡ before.told) ⊎ (after.told ≡ note.list)
  pub told : IsPrefix before.told after.told
  pub noted : IsPrefix note.list after.told

-- a reader that has seen nothing, was told of nothing, and was never turned away
abbrev pub unread : Book → ReaderView
unread board = record { board = board; seen = []; told = []; shut = 0 }

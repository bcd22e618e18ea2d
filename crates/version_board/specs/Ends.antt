-- The ends of a board, as contracts see them.
use Rattle.std.specs.Prelude.{ℕ, List, Option}
use Rattle.logbook.specs.Pages.{Book}
use Rattle.board_model.specs.Boards.{Entry}
use Rattle.board_model.specs.Rule.{Published}
use Rattle.version_board.specs.Copies.{Copy}
use Rattle.version_board.specs.declared.change.Change.{Change}

-- a writer: its board, the published list and the pending one
pub record WriterView : Type 0 where
  pub board : Book
  pub published : List Entry
  pub pending : List Entry

-- a reader: its board, the list that it saw last, the longest one of which it was told, and how often it was turned away
pub record ReaderView : Type 0 where
  pub board : Book
  pub seen : List Entry
  pub told : List Entry
  pub shut : ℕ

-- the writer of the two copies: the copy that readers take, the changes that are pending, and what it has seen
pub record PenView : Type 0 where
  pub copy : Copy
  pub changes : List Change
  pub sight : Option Published

-- the reader of the two copies: what it has seen, and how often it was turned away
pub record DoorView : Type 0 where
  pub sight : Option Published
  pub shut : ℕ

-- that reader, while it reads: also the copy that it reads
pub record InsideView : Type 0 where
  pub copy : Copy
  pub sight : Option Published
  pub shut : ℕ

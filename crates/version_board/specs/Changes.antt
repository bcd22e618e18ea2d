-- What changes make of a copy of the board.
use Rattle.std.specs.Prelude.{List, [], ◌∷◌, ◌++◌}
use Rattle.board_model.specs.Boards.{Entry}
use Rattle.version_board.specs.Copies.{Copy}
use Rattle.version_board.specs.declared.change.Change.{Change}
use Rattle.version_board.specs.declared.change.Change.TheVariants.{Add, Reach}

-- a copy after a change
abbrev pub changed : Copy → Change → Copy
changed copy (Add entry) = record { list = copy.list ++ entry ∷ []; front = copy.front }
changed copy (Reach front) = record { list = copy.list; front = front }

-- the entries that changes add
abbrev pub added : List Change → List Entry
added [] = []
added (Add entry ∷ changes) = entry ∷ added changes
added (Reach front ∷ changes) = added changes

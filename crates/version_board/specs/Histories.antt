-- The history of a board, and the step that adds to it.
use Rattle.std.specs.Prelude.{ℕ, ◌≡◌, ◌==◌, true, List, [], ◌∷◌, ◌++◌, length, MatchBool, ⊤}
use Rattle.logbook.specs.Pages.{Cell, Step, View, Book, Named}
use Rattle.board_model.specs.Boards.{Entry}

-- the first word of a history is its length, and the second is 0
pub record IsCounted (cells : List Cell) (log : List Entry) : Type 0 where
  pub words : cells ≡ (length log, true) ∷ (0, true) ∷ []

-- the first word of a history
abbrev pub word_of : Book → Named
word_of book = record { tracked = true; key = 0; book = book }

-- where the length is the expected one, the entry was added to all that had been seen
abbrev pub Adds : Step Entry → View Entry ℕ → ℕ → View Entry ℕ → Type 0
Adds step before found after = MatchBool (found == step.old) (after.0 ≡ before.0 ++ step.ask ∷ []) ⊤

-- The entries of a board, in lists with the oldest one first.
use Rattle.std.specs.Prelude.{ℕ, Bool, List, Option, None, bytes_eq}
use Rattle.std.specs.List.{filter, last_or}

-- a version on the board: its label, its number and its bytes
pub record Entry : Type 0 where
  pub label : List ℕ
  pub version : ℕ
  pub bytes : List ℕ

-- whether an entry is of a label
abbrev pub is_of : List ℕ → Entry → Bool
is_of label entry = bytes_eq entry.label label

-- the last entry of a label in a list, and none where the list has none of it
abbrev pub last_of : List ℕ → List Entry → Option Entry
last_of label list = last_or None (filter (is_of label) list)

-- What the rows of strings over a content come to.
use Rattle.std.specs.Prelude.{◌≡◌, ◌<◌, ◌≤◌, ℕ, List, [], ◌∷◌, ◌++◌, length}
use Rattle.object_model.specs.Trees.{rows_of}
use Rattle.object_model.specs.Updates.{largest}

-- the last of some rows has one string
abbrev pub EndsInOneString : List (List (List ℕ)) → Type 0
EndsInOneString rows = (lower : List (List (List ℕ))) × (string : List ℕ) × (rows ≡ lower ++ (string ∷ []) ∷ [])

-- so do the rows of each content of at least one byte, within the limits
abbrev pub RowsEndInOneString : Type 0
RowsEndInOneString = (h : List ℕ → List ℕ) (block : ℕ) (content : List ℕ) → 64 ≤ block → block ≤ 8192 → 0 < length content → length content ≤ largest → EndsInOneString (rows_of h block content)

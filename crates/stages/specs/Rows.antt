-- The rows of a string.
use Rattle.std.specs.Prelude.{ℕ, List, map}
use Rattle.std.specs.List.{range_with_len}
use Rattle.cauchy_code.specs.Code.{Parameters, row}

-- all rows of a string, in the order of their indexes
abbrev pub rows_of : Parameters → List ℕ → List (List ℕ)
rows_of code string = map (row code string) (range_with_len 0 code.n)

-- Tables that are kept.
use Rattle.std.specs.Prelude.{ℕ, ◌==◌, List, [], length, if◌then◌else◌}
use Rattle.cauchy_code.specs.Code.{Parameters}

-- the code, how many tables are kept at most, and the lists of indexes whose tables are kept
pub record Kept : Type 0 where
  pub code : Parameters
  pub size : ℕ
  pub lists : List (List ℕ)

-- the lists that stay where one more comes: none, where as many are kept as may be
abbrev pub staying : Kept → List (List ℕ)
staying k = (if length k.lists == k.size then [] else k.lists)

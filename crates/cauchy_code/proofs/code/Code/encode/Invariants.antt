use Rattle.std.proofs.Common.{◌≡◌, ◌≤◌, ◌-◌, ℕ, List, map}
use Rattle.std.specs.List.{range_with_len}
use Rattle.cauchy_code.specs.Code.{Parameters, row}
use Rattle.cauchy_code.proofs.code.Code.encode.Given as goal

-- the first i rows
pub record Rows (rows : List (List ℕ)) (code : Parameters) (block : List ℕ) (i : ℕ) : Type 0 where
  pub rows_are : rows ≡ map (row code block) (range_with_len 0 i)
  pub within : i ≤ code.n

abbrev pub invariant-loop-i : goal.invariant-loop-i
invariant-loop-i l = Rows (map (λ r. r.items) l.rows.items) l.self l.block l.i

abbrev pub decreases-loop-i : goal.decreases-loop-i
decreases-loop-i l = l.n - l.i

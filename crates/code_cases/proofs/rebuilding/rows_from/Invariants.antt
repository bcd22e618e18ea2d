use Rattle.std.proofs.Common.{◌≡◌, ℕ, List, map, length}
use Rattle.std.specs.List.{range_with_len}
use Rattle.cauchy_code.specs.Code.{AllLong, part_length}
use Rattle.code_cases.proofs.rebuilding.rows_from.Given as goal

-- k parts from an index on
pub record Made (parts : List (ℕ × List ℕ)) (from k p : ℕ) : Type 0 where
  pub indexes : map (λ q. q.0) parts ≡ range_with_len from k
  pub long : AllLong p (map (λ q. q.1) parts)

abbrev pub invariant-loop-k : goal.invariant-loop-k
invariant-loop-k l = Made l.parts.items l.from l.k (part_length l.code.m (length l.block))

use Rattle.std.proofs.Common.{◌≡◌, ℕ, ◌<◌, ◌+◌, ◌*◌, get_or, length, List}
use Rattle.gf_lanes.specs.Sums.{sum_to}
use Rattle.cauchy_code.proofs.combine.combine.Given as goal

pub record Sums (sum factors bytes : List ℕ) (p k : ℕ) : Type 0 where
  pub long : length sum ≡ p
  pub each : (j : ℕ) → j < p → get_or sum j 0 ≡ sum_to factors (λ i. get_or bytes (i * p + j) 0) k

abbrev pub invariant-loop-k : goal.invariant-loop-k
invariant-loop-k l = Sums l.sum.items l.factors l.bytes l.part_len l.k

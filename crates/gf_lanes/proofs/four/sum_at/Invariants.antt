use Rattle.std.proofs.Common.{◌≡◌, ◌+◌, ◌*◌, get_or}
use Rattle.gf_lanes.specs.Sums.{sum_to}
use Rattle.gf_lanes.proofs.four.sum_at.Given as goal

abbrev pub invariant-loop-k : goal.invariant-loop-k
invariant-loop-k l = l.sum ≡ sum_to l.factors (λ i. get_or l.parts (i * l.part_len + l.j) 0) l.k

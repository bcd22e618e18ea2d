use Rattle.std.proofs.Common.{◌+◌, ◌*◌, get_or, bit_xor}
use Rattle.gf_lanes.proofs.PartSums.{sum_to_more, sum_to_none}
use Rattle.gf_lanes.proofs.four.sum_at.Goals as goal

pub loop-k-init : goal.loop-k-init
loop-k-init c = sum_to_none c.args.factors.now (λ i. get_or c.args.parts.now (i * c.args.part_len + c.args.j) 0)

pub loop-k-preserved : goal.loop-k-preserved
loop-k-preserved c =
    sum_to_more c.args.factors.now (λ i. get_or c.args.parts.now (i * c.args.part_len + c.args.j) 0) c.loop-k.k _ c.loop-k.sum c.loop-k.invariant
    (λ i. bit_xor c.loop-k.sum (c.mul-sum.ensures i))

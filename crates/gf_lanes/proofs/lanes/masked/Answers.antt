use Rattle.std.proofs.Common.{◌≡◌, ◌∙◌, ap, arith, bit_and, length, take, get_or-take, length-take-le}
use Rattle.gf_lanes.proofs.LaneLemmas.{splat_lanes}
use Rattle.gf_lanes.proofs.lanes.masked.Goals as goal

pub returns : goal.returns
returns c =
    let long : length (take 32 c.args.mask.now) ≡ 32 = length-take-le 32 _ (omega arith) in
    let h = splat_lanes bit_and c.args.a (take 32 c.args.mask.now) long in
    record { long = h.long; each = λ k l. h.each k l ∙ ap (bit_and c.args.a) (get_or-take 32 _ k 0 l) }

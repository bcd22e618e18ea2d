use Rattle.std.proofs.Common.{refl}
use Rattle.gf_lanes.proofs.PartSums.{lanes_none, lanes_more}
use Rattle.gf_lanes.proofs.four.sums_at.Goals as goal

pub loop-k-init : goal.loop-k-init
loop-k-init c = record {
  first = lanes_none c.args.first.now c.args.parts.now c.zeros.result c.args.part_len c.args.at c.zeros.ensures;
  second = lanes_none c.args.second.now c.args.parts.now c.zeros-2.result c.args.part_len c.args.at c.zeros-2.ensures;
  third = lanes_none c.args.third.now c.args.parts.now c.zeros-3.result c.args.part_len c.args.at c.zeros-3.ensures;
  fourth = lanes_none c.args.fourth.now c.args.parts.now c.zeros-4.result c.args.part_len c.args.at c.zeros-4.ensures;
}

pub loop-k-preserved : goal.loop-k-preserved
loop-k-preserved c = record {
  first =
      lanes_more c.args.first.now c.args.parts.now c.sum-sums.result c.loop-k.sums.first c.times.result c.load-bytes.result c.args.part_len c.args.at c.loop-k.k _ refl
      c.loop-k.invariant.first c.load-bytes.ensures c.times.ensures c.sum-sums.ensures;
  second =
      lanes_more c.args.second.now c.args.parts.now c.sum-sums-in-loop-k.result c.loop-k.sums.second c.times-in-loop-k.result c.load-bytes.result c.args.part_len c.args.at c.loop-k.k _ refl
      c.loop-k.invariant.second c.load-bytes.ensures c.times-in-loop-k.ensures c.sum-sums-in-loop-k.ensures;
  third =
      lanes_more c.args.third.now c.args.parts.now c.sum-sums-in-loop-k-2.result c.loop-k.sums.third c.times-in-loop-k-2.result c.load-bytes.result c.args.part_len c.args.at c.loop-k.k _ refl
      c.loop-k.invariant.third c.load-bytes.ensures c.times-in-loop-k-2.ensures c.sum-sums-in-loop-k-2.ensures;
  fourth =
      lanes_more c.args.fourth.now c.args.parts.now c.sum-sums-in-loop-k-3.result c.loop-k.sums.fourth c.times-in-loop-k-3.result c.load-bytes.result c.args.part_len c.args.at c.loop-k.k _ refl
      c.loop-k.invariant.fourth c.load-bytes.ensures c.times-in-loop-k-3.ensures c.sum-sums-in-loop-k-3.ensures;
}

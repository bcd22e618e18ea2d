use Rattle.std.proofs.Common.{◌≡◌, ◌+◌, ◌*◌, length, get_or, arith, ap, ◌∙◌, take, drop, ◌++◌, bit_xor}
use Rattle.gf256.specs.Field.{product}
use Rattle.std.proofs.lemmas.Grind.{common_steps}
use Rattle.std.proofs.lemmas.List.FromFn.{fill_by_all}
use Rattle.cauchy_code.specs.Code.{dot, column}
use Rattle.gf_lanes.specs.Sums.{sum_to}
use Rattle.gf_lanes.proofs.PartSums.{sum_to_more}
use Rattle.cauchy_code.proofs.Columns.{sum_to_all}
use Rattle.cauchy_code.proofs.combine.combine.Goals as goal

pub loop-k-init : goal.loop-k-init
unfolding sum_to
loop-k-init c = record { long = grind (arith, common_steps); each = λ j lt. grind (arith, common_steps) }

pub loop-k-preserved : goal.loop-k-preserved
unfolding sum_to
loop-k-preserved c = record {
  long = grind (arith, common_steps);
  each = λ j lt.
      let long : length c.add_part.new.sum ≡ c.args.part_len = grind (arith, common_steps) in
      let whole : get_or (take c.loop-k.sum.len (c.add_part.new.sum ++ drop (length c.add_part.new.sum) c.loop-k.sum.items)) j 0 ≡ get_or c.add_part.new.sum j 0 = grind (arith, common_steps) in
      sum_to_more c.args.factors.now (λ i. get_or c.args.bytes.now (i * c.args.part_len + j) 0) c.loop-k.k _ (get_or c.loop-k.sum.items j 0) (c.loop-k.invariant.each j lt)
      (whole ∙ c.add_part.ensures j (omega (arith, long)) ∙ ap (λ s. bit_xor (get_or s j 0) (product (get_or c.args.factors.now c.loop-k.k 0) (get_or c.args.bytes.now (c.loop-k.k * c.args.part_len + j) 0))) c.deref_mut.ensures.value);
}

pub returns : goal.returns
unfolding column
returns c =
    fill_by_all (λ j. dot c.args.factors.now (column (length c.args.factors.now) c.args.part_len c.args.bytes.now j)) c.loop-k.sum.items c.args.part_len 0 c.loop-k.invariant.long
    (λ j lt. c.loop-k.invariant.each j lt ∙ ap (sum_to c.args.factors.now (λ i. get_or c.args.bytes.now (i * c.args.part_len + j) 0)) (let e : c.loop-k.k ≡ length c.args.factors.now = omega arith in e) ∙ sum_to_all c.args.factors.now (λ i. get_or c.args.bytes.now (i * c.args.part_len + j) 0))

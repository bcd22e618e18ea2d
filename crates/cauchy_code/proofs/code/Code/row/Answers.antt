use Rattle.std.proofs.Common.{◌≡◌, ◌≤◌, ◌<◌, ◌∙◌, sym, ap, subst, length, arith, rules, refl}
use Rattle.std.specs.List.{range_with_len}
use Rattle.std.proofs.lemmas.List.FromFn.{length-range_with_len}
use Rattle.cauchy_code.specs.Code.{cauchy_row, Away}
use Rattle.cauchy_code.proofs.Blocks.{away_range, product_bound}
use Rattle.cauchy_code.proofs.Steps.{cauchy_length}
use Rattle.cauchy_code.proofs.AnyRows.{sum_row, part_row, part_fits}
use Rattle.cauchy_code.proofs.code.Code.row.Goals as goal

pub overflow_mul-index : goal.overflow_mul-index
overflow_mul-index c =
    let few : c.args.self.now.m ≤ 32 = omega (arith, c.m-m.ensures.value, c.m-m.ensures.few) in
    let some : 0 < c.args.self.now.m = omega (arith, c.m-m.ensures.value, c.m-m.ensures.some) in
    record { fits = part_fits c.args.self.now c.args.index c.part_len-len.result (length c.args.block.now) (sym c.is_part.ensures ∙ c.if-is_part.true) c.part_len-len.ensures some few (search rules) }

pub row_factors-requires : goal.row_factors-requires
row_factors-requires c = subst (Away c.args.index) (sym (c.deref.ensures.value ∙ c.in_ok-points.ensures)) (away_range c.args.index c.n-n.result c.m-m.result (omega (arith, c.requires, c.n-n.ensures.value)))

pub combine-requires : goal.combine-requires
combine-requires c =
    let few : c.args.self.now.m ≤ 32 = omega (arith, c.m-m.ensures.value, c.m-m.ensures.few) in
    let some : 0 < c.args.self.now.m = omega (arith, c.m-m.ensures.value, c.m-m.ensures.some) in
    let e = c.deref-2.ensures.value ∙ c.in_ok-factors.ensures ∙ ap (cauchy_row c.args.index) (c.deref.ensures.value ∙ c.in_ok-points.ensures) in
    let l : length c.deref-2.result.now ≡ c.args.self.now.m =
    ap length e ∙ cauchy_length c.args.index (range_with_len c.n-n.result c.m-m.result) ∙ length-range_with_len c.n-n.result c.m-m.result ∙ c.m-m.ensures.value in
    product_bound (length c.deref-2.result.now) c.part_len-len.result c.args.self.now.m (length c.args.block.now) l c.part_len-len.ensures some few (search rules)

pub returns-then-is_part : goal.returns-then-is_part
returns-then-is_part c =
    part_row c.args.self.now c.part.result c.args.block.now _ c.part_len-len.result c.args.index c.part.ensures (sym c.is_part.ensures ∙ c.if-is_part.true) refl c.part_len-len.ensures

pub returns : goal.returns
returns c =
    let e = c.deref-2.ensures.value ∙ c.in_ok-factors.ensures ∙ ap (cauchy_row c.args.index) (c.deref.ensures.value ∙ c.in_ok-points.ensures)
    ∙ (λ i. cauchy_row c.args.index (range_with_len (c.n-n.ensures.value i) (c.m-m.ensures.value i))) in
    sum_row c.args.self.now c.combine.result c.deref-2.result.now c.args.block.now c.part_len-len.result c.args.index c.combine.ensures (sym c.is_part.ensures ∙ c.if-is_part.false) e c.part_len-len.ensures

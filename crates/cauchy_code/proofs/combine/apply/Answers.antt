use Rattle.std.proofs.Common.{◌+◌, ◌*◌, ◌<◌, ◌≤◌, ◌^◌, ◌∙◌, ap, sym, subst, map, length, arith, refl}
use Rattle.std.specs.List.{range_with_len}
use Rattle.cauchy_code.specs.Code.{dot, column}
use Rattle.cauchy_code.specs.Table.{given_part}
use Rattle.cauchy_code.proofs.Fours.{row_read, row_wide, part_added}
use Rattle.cauchy_code.proofs.combine.apply.Goals as goal

pub combine_four-requires-clause-many_second : goal.combine_four-requires-clause-many_second
combine_four-requires-clause-many_second c =
    let room : c.loop-done.done + 4 ≤ length c.args.table.now = c.if-are_four_sums.ensures refl in
    row_wide c.args.table.now (length c.args.table.now) (c.loop-done.done + 1) c.index-table-done-then-are_four_sums.result c.deref-then-are_four_sums.result.now c.requires.square (omega arith) c.index-table-done-then-are_four_sums.is c.deref-then-are_four_sums.ensures.value
    ∙ sym (row_wide c.args.table.now (length c.args.table.now) c.loop-done.done c.index-table-done.result c.deref.result.now c.requires.square (omega arith) c.index-table-done.is c.deref.ensures.value)

pub combine_four-requires-clause-many_third : goal.combine_four-requires-clause-many_third
combine_four-requires-clause-many_third c =
    let room : c.loop-done.done + 4 ≤ length c.args.table.now = c.if-are_four_sums.ensures refl in
    row_wide c.args.table.now (length c.args.table.now) (c.loop-done.done + 2) c.index-table-done-then-are_four_sums-2.result c.deref-then-are_four_sums-2.result.now c.requires.square (omega arith) c.index-table-done-then-are_four_sums-2.is c.deref-then-are_four_sums-2.ensures.value
    ∙ sym (row_wide c.args.table.now (length c.args.table.now) c.loop-done.done c.index-table-done.result c.deref.result.now c.requires.square (omega arith) c.index-table-done.is c.deref.ensures.value)

pub combine_four-requires-clause-many_fourth : goal.combine_four-requires-clause-many_fourth
combine_four-requires-clause-many_fourth c =
    let room : c.loop-done.done + 4 ≤ length c.args.table.now = c.if-are_four_sums.ensures refl in
    row_wide c.args.table.now (length c.args.table.now) (c.loop-done.done + 3) c.index-table-done-then-are_four_sums-3.result c.deref-then-are_four_sums-3.result.now c.requires.square (omega arith) c.index-table-done-then-are_four_sums-3.is c.deref-then-are_four_sums-3.ensures.value
    ∙ sym (row_wide c.args.table.now (length c.args.table.now) c.loop-done.done c.index-table-done.result c.deref.result.now c.requires.square (omega arith) c.index-table-done.is c.deref.ensures.value)

pub combine_four-requires-clause-whole : goal.combine_four-requires-clause-whole
combine_four-requires-clause-whole c =
    let room : c.loop-done.done + 4 ≤ length c.args.table.now = c.if-are_four_sums.ensures refl in
    let l = row_wide c.args.table.now (length c.args.table.now) c.loop-done.done c.index-table-done.result c.deref.result.now c.requires.square (omega arith) c.index-table-done.is c.deref.ensures.value in
    subst (λ n. n * c.args.part_len ≤ length c.args.rows.now) (sym l) c.requires.whole

pub loop-done-preserved-then-are_four_sums : goal.loop-done-preserved-then-are_four_sums
loop-done-preserved-then-are_four_sums c =
    let room : c.loop-done.done + 4 ≤ length c.args.table.now = c.if-are_four_sums.ensures refl in
    let l = row_wide c.args.table.now (length c.args.table.now) c.loop-done.done c.index-table-done.result c.deref.result.now c.requires.square (omega arith) c.index-table-done.is c.deref.ensures.value in
    let first =
    part_added c.args.table.now c.args.rows.now (length c.args.table.now) c.args.part_len c.loop-done.done (c.loop-done.done + 1) c.deref.result.now c.loop-done.block.items c.extend_from_slice.new.self.items c.deref-then-are_four_sums-4.result.now
    (omega arith) (omega arith) (row_read c.args.table.now c.loop-done.done c.index-table-done.result c.deref.result.now (omega arith) c.index-table-done.is c.deref.ensures.value)
    c.loop-done.invariant.parts c.in_ok-extend_from_slice.ensures.items (c.deref-then-are_four_sums-4.ensures.value ∙ c.in_ok-parts.ensures.first ∙ ap (λ m. given_part m c.args.part_len c.args.rows.now c.deref.result.now) l) in
    let second =
    part_added c.args.table.now c.args.rows.now (length c.args.table.now) c.args.part_len (c.loop-done.done + 1) (c.loop-done.done + 2) c.deref-then-are_four_sums.result.now c.extend_from_slice.new.self.items c.extend_from_slice-then-are_four_sums.new.self.items c.deref-then-are_four_sums-5.result.now
    (omega arith) (omega arith) (row_read c.args.table.now (c.loop-done.done + 1) c.index-table-done-then-are_four_sums.result c.deref-then-are_four_sums.result.now (omega arith) c.index-table-done-then-are_four_sums.is c.deref-then-are_four_sums.ensures.value)
    first c.in_ok-extend_from_slice-2.ensures.items (c.deref-then-are_four_sums-5.ensures.value ∙ c.in_ok-parts.ensures.second ∙ ap (λ m. given_part m c.args.part_len c.args.rows.now c.deref-then-are_four_sums.result.now) l) in
    let third =
    part_added c.args.table.now c.args.rows.now (length c.args.table.now) c.args.part_len (c.loop-done.done + 2) (c.loop-done.done + 3) c.deref-then-are_four_sums-2.result.now c.extend_from_slice-then-are_four_sums.new.self.items c.extend_from_slice-then-are_four_sums-2.new.self.items c.deref-then-are_four_sums-6.result.now
    (omega arith) (omega arith) (row_read c.args.table.now (c.loop-done.done + 2) c.index-table-done-then-are_four_sums-2.result c.deref-then-are_four_sums-2.result.now (omega arith) c.index-table-done-then-are_four_sums-2.is c.deref-then-are_four_sums-2.ensures.value)
    second c.in_ok-extend_from_slice-3.ensures.items (c.deref-then-are_four_sums-6.ensures.value ∙ c.in_ok-parts.ensures.third ∙ ap (λ m. given_part m c.args.part_len c.args.rows.now c.deref-then-are_four_sums-2.result.now) l) in
    let fourth =
    part_added c.args.table.now c.args.rows.now (length c.args.table.now) c.args.part_len (c.loop-done.done + 3) (c.loop-done.done + 4) c.deref-then-are_four_sums-3.result.now c.extend_from_slice-then-are_four_sums-2.new.self.items c.extend_from_slice-then-are_four_sums-3.new.self.items c.deref-then-are_four_sums-7.result.now
    (omega arith) (omega arith) (row_read c.args.table.now (c.loop-done.done + 3) c.index-table-done-then-are_four_sums-3.result c.deref-then-are_four_sums-3.result.now (omega arith) c.index-table-done-then-are_four_sums-3.is c.deref-then-are_four_sums-3.ensures.value)
    third c.in_ok-extend_from_slice-4.ensures.items (c.deref-then-are_four_sums-7.ensures.value ∙ c.in_ok-parts.ensures.fourth ∙ ap (λ m. given_part m c.args.part_len c.args.rows.now c.deref-then-are_four_sums-3.result.now) l) in
    record { parts = fourth; within = room }

pub combine-requires : goal.combine-requires
combine-requires c =
    let l = row_wide c.args.table.now (length c.args.table.now) c.loop-done.done c.index-table-done-else-are_four_sums.result c.deref-else-are_four_sums.result.now c.requires.square c.loop-done-test.true
    c.index-table-done-else-are_four_sums.is c.deref-else-are_four_sums.ensures.value in
    subst (λ n. n * c.args.part_len < 2 ^ 64) (sym l) c.requires.fits

pub loop-done-preserved : goal.loop-done-preserved
unfolding given_part
loop-done-preserved c =
    let l = row_wide c.args.table.now (length c.args.table.now) c.loop-done.done c.index-table-done-else-are_four_sums.result c.deref-else-are_four_sums.result.now c.requires.square c.loop-done-test.true
    c.index-table-done-else-are_four_sums.is c.deref-else-are_four_sums.ensures.value in
    record {
      parts =
          part_added c.args.table.now c.args.rows.now (length c.args.table.now) c.args.part_len c.loop-done.done (c.loop-done.done + 1) c.deref-else-are_four_sums.result.now c.loop-done.block.items
          c.extend_from_slice-else-are_four_sums.new.self.items c.deref-else-are_four_sums-2.result.now c.loop-done-test.true refl
          (row_read c.args.table.now c.loop-done.done c.index-table-done-else-are_four_sums.result c.deref-else-are_four_sums.result.now c.loop-done-test.true c.index-table-done-else-are_four_sums.is c.deref-else-are_four_sums.ensures.value)
          c.loop-done.invariant.parts c.in_ok-extend_from_slice-5.ensures.items
          (c.deref-else-are_four_sums-2.ensures.value ∙ c.in_ok-part.ensures
          ∙ (λ i. map (λ j. dot c.deref-else-are_four_sums.result.now (column (l i) c.args.part_len c.args.rows.now j)) (range_with_len 0 c.args.part_len)));
      within = omega arith;
    }

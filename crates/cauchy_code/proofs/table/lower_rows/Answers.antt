use Rattle.std.proofs.Common.{◌∙◌, sym, ap, get_or, map, length, arith, bit_xor, [], ◌∷◌}
use Rattle.std.proofs.lemmas.List.{length-map, map-append}
use Rattle.cauchy_code.specs.Table.{back, kept}
use Rattle.gf256.proofs.Ring.{xor_differ}
use Rattle.cauchy_code.proofs.Steps.{map_read, wide_at, away_at, lower_push, lower_none, taken_of_kept}
use Rattle.cauchy_code.proofs.table.lower_rows.Goals as goal

pub loop-k-init : goal.loop-k-init
loop-k-init c = ap (map (λ w. w.items)) c.in_ok-rows.ensures.items ∙ sym (lower_none c.args.x0 c.args.y0 c.args.xs.now c.args.ys.now (map (λ w. w.items) c.args.smaller.now))

pub div-back-requires : goal.div-back-requires
div-back-requires c = xor_differ (get_or c.args.ys.now c.loop-k.k 0) c.args.y0 (λ e. away_at c.args.y0 c.args.ys.now c.loop-k.k c.requires.columns_differ (omega arith) (sym e))

pub lower_row-requires : goal.lower_row-requires
lower_row-requires c =
    ap length c.deref.ensures.value
    ∙ ap length (sym (map_read (λ w. w.items) c.args.smaller.now c.loop-k.k c.index-smaller-k.result [] c.loop-k-test.true c.index-smaller-k.is))
    ∙ wide_at (length c.args.xs.now) (map (λ w. w.items) c.args.smaller.now) c.loop-k.k c.requires.wide (omega (arith, length-map c.args.smaller.now (λ w. w.items)))
    ∙ sym (ap length (c.deref-in-loop-k.ensures.value ∙ c.in_ok-kept.ensures) ∙ length-map c.args.xs.now (kept c.args.x0 c.args.y0))

pub loop-k-preserved : goal.loop-k-preserved
unfolding back
loop-k-preserved c =
    lower_push c.args.x0 c.args.y0 c.args.xs.now c.args.ys.now (map (λ w. w.items) c.args.smaller.now) (map (λ w. w.items) c.loop-k.rows.items) _ c.loop-k.k c.div-back.result
    c.in_ok-lower_row.field-0.items c.deref.result.now (map (λ k. bit_xor k 1) c.deref-in-loop-k.result.now) c.deref-in-loop-k.result.now
    (omega (arith, length-map c.args.smaller.now (λ w. w.items))) (c.requires.same ∙ sym (length-map c.args.smaller.now (λ w. w.items)))
    c.loop-k.invariant (ap (map (λ w. w.items)) c.in_ok-push.ensures.items ∙ map-append (λ w. w.items) c.loop-k.rows.items (c.in_ok-lower_row.field-0 ∷ []))
    c.in_ok-lower_row.ensures c.div-back.ensures.value
    (c.deref.ensures.value ∙ sym (map_read (λ w. w.items) c.args.smaller.now c.loop-k.k c.index-smaller-k.result [] c.loop-k-test.true c.index-smaller-k.is))
    (taken_of_kept c.args.x0 c.args.y0 c.args.xs.now c.deref-in-loop-k.result.now (omega arith) (λ i. (c.type_inv.xs i).fits) c.requires.rows_differ (c.deref-in-loop-k.ensures.value ∙ c.in_ok-kept.ensures))
    (c.deref-in-loop-k.ensures.value ∙ c.in_ok-kept.ensures)

use Rattle.std.proofs.Common.{◌<◌, ◌++◌, ◌∙◌, [], List, length, unwrap_or, ap₂, arith}
use Rattle.cow_tree.specs.Views.{NodeView}
use Rattle.cow_tree.specs.Changed.{changed_in_row}
use Rattle.cow_tree.proofs.Differing.{paired_next}
use Rattle.cow_tree.proofs.changed.add_changed_rows.Goals as goal

pub loop-level-preserved : goal.loop-level-preserved
loop-level-preserved c =
    let within : c.loop-level.level < length c.args.rows.now = omega arith in
    paired_next (λ row other. changed_in_row row (unwrap_or other [])) c.args.rows.now c.args.before.now c.loop-level.level c.index-rows-level.result c.args.changed.now c.loop-level.changed c.add_changed_nodes.new.changed within c.index-rows-level.is
    c.loop-level.invariant (c.in_ok-add_changed_nodes.ensures ∙ ap₂ (λ (row other : List NodeView). c.loop-level.changed ++ changed_in_row row other) c.as_slice.ensures c.row_at.ensures)

use Rattle.std.proofs.Common.{◌<◌, ◌++◌, ◌∙◌, [], List, length, slice_get, unwrap_or, ap, arith}
use Rattle.cow_tree.specs.Views.{NodeView}
use Rattle.cow_tree.specs.Changed.{changed_in_row}
use Rattle.cow_tree.proofs.Differing.{paired_next}
use Rattle.cow_tree.proofs.changed.add_changed_leaves.Goals as goal

pub loop-place-preserved : goal.loop-place-preserved
loop-place-preserved c =
    let within : c.loop-place.place < length c.args.groups.now = omega arith in
    paired_next (λ row other. changed_in_row row (unwrap_or other [])) c.args.groups.now c.args.before.now c.loop-place.place c.index-groups-place.result c.args.changed.now c.loop-place.changed c.add_changed_group.new.changed within c.index-groups-place.is
    c.loop-place.invariant
    (c.in_ok-add_changed_group.ensures ∙ ap (λ (group : List NodeView). c.loop-place.changed ++ changed_in_row group (unwrap_or (slice_get c.args.before.now c.loop-place.place) [])) c.get.ensures)

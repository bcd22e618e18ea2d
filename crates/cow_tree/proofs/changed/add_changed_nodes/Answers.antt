use Rattle.std.proofs.Common.{◌<◌, length, arith}
use Rattle.cow_tree.specs.Changed.{unless_there}
use Rattle.cow_tree.proofs.Differing.{paired_next}
use Rattle.cow_tree.proofs.changed.add_changed_nodes.Goals as goal

pub loop-place-preserved : goal.loop-place-preserved
loop-place-preserved c =
    let within : c.loop-place.place < length c.args.nodes.now = omega arith in
    paired_next unless_there c.args.nodes.now c.args.before.now c.loop-place.place c.index-nodes-place.result c.args.changed.now c.loop-place.changed c.add_changed_node.new.changed within c.index-nodes-place.is
    c.loop-place.invariant c.in_ok-add_changed_node.ensures

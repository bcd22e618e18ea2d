use Rattle.std.proofs.Common.{◌<◌, ◌^◌, arith, sym, subst}
use Rattle.fold_model.proofs.Blocks.{one_block}
use Rattle.pond_node.specs.declared.node.Node.{Node}
use Rattle.pond_node.specs.Standing as node
use Rattle.pond_node.specs.Standing.{NodeStands}
use Rattle.ring_world.specs.declared.state.World.{World}
use Rattle.ring_world.specs.Worlds.{WorldStands, IsKnown}
use Rattle.text_model.specs.Events.{ring_for, events_of, is_declared_faulty, no_archives}
use Rattle.script_run.proofs.Kept.{committed_held}
use Rattle.script_run.proofs.events.holds_committed.Goals as goal

pub returns : goal.returns
returns g c = λ lines stands within.
    let h = g.H.Hash160.naming in
    let script = c.args.script.now in
    let low : script.setup.block < 2 ^ 32 = omega (arith, within.setup.most) in
    let here : WorldStands NodeStands (ring_for h script) c.world.result.now (events_of h script lines) =
    subst (λ (w : World Node). WorldStands NodeStands (ring_for h script) w (events_of h script lines)) (sym c.world.ensures.world) stands in
    let found = c.committed.ensures.chosen (ring_for h script) (events_of h script lines) here in
    committed_held h script c.args.site.now.held lines found.0 _ c.committed.result.now one_block low
    (c.ring_folds.ensures script.setup.f script.setup.clients (is_declared_faulty script) h script.setup.block no_archives) (c.committed.ensures.known h c.args.site.now.held (c.world.ensures.known here.is.going)) found.2 found.3

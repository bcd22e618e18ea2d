use Rattle.std.proofs.Common.{[], arith, sym, subst}
use Rattle.fold_model.proofs.Blocks.{one_block}
use Rattle.pond_node.specs.declared.node.Node.{Node}
use Rattle.pond_node.specs.Standing as node
use Rattle.pond_node.specs.Standing.{NodeStands}
use Rattle.ring_world.specs.declared.state.World.{World}
use Rattle.ring_world.specs.Worlds.{WorldStands, IsKnown}
use Rattle.text_model.specs.Events.{ring_for, is_declared_faulty, no_archives}
use Rattle.script_run.proofs.Opening.{empty_held}
use Rattle.script_run.proofs.beginning.holds_empty.Goals as goal

pub returns : goal.returns
returns g c = λ stands within.
    let h = g.H.Hash160.naming in
    let script = c.args.script.now in
    let here : WorldStands NodeStands (ring_for h script) c.world.result.now [] =
    subst (λ (w : World Node). WorldStands NodeStands (ring_for h script) w []) (sym c.world.ensures.world) stands in
    let found = c.committed.ensures.chosen (ring_for h script) [] here in
    empty_held h script c.args.site.now.held found.0 _ c.committed.result.now one_block (omega (arith, within.setup.most))
    (c.ring_folds.ensures script.setup.f script.setup.clients (is_declared_faulty script) h script.setup.block no_archives) (c.committed.ensures.known h c.args.site.now.held (c.world.ensures.known here.is.going)) found.2

use Rattle.script_run.proofs.Forgeries.{order_forged, order_sent}
use Rattle.ring_world.specs.Skipping.{skips as skips_of}
use Rattle.script_run.proofs.state.State.forged_order.Goals as goal

pub asked-requires-clause-sent : goal.asked-requires-clause-sent
asked-requires-clause-sent g c =
    let a = c.args in
    order_sent c.lines_fit_in_turn.ensures.turn g.H.Hash160.naming a.script.now a.at a.member a.to a.seq a.client a.number a.self.site (skips_of a.self.site.world) c.requires

pub forged-requires : goal.forged-requires
forged-requires g c =
    let a = c.args in
    order_forged c.lines_fit_in_turn.ensures.turn c.asked_is_there.ensures g.H.Hash160.naming a.script.now a.at a.member a.to a.seq a.client a.number c.in_ok-request.request a.self.site (skips_of a.self.site.world) c.requires c.in_ok-request.ensures

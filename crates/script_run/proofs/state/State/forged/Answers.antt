use Rattle.script_run.proofs.Forgeries.{forgery_comes}
use Rattle.ring_world.specs.Skipping.{skips as skips_of}
use Rattle.script_run.proofs.state.State.forged.Goals as goal

pub sent-requires-clause-coming : goal.sent-requires-clause-coming
sent-requires-clause-coming g c =
    let a = c.args in
    forgery_comes c.messages_are_meant.ensures g.H.Hash160.naming a.script.now a.at a.member a.to a.message.now c.in_ok-bytes.bytes a.self.site (skips_of a.self.site.world) c.requires c.in_ok-bytes.ensures.allowed c.in_ok-bytes.ensures.string

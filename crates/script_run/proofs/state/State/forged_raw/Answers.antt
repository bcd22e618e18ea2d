use Rattle.script_run.proofs.Forgeries.{raw_comes}
use Rattle.ring_world.specs.Skipping.{skips as skips_of}
use Rattle.script_run.proofs.state.State.forged_raw.Goals as goal

pub sent-requires-clause-coming : goal.sent-requires-clause-coming
sent-requires-clause-coming g c =
    let a = c.args in
    raw_comes g.H.Hash160.naming a.script.now a.at a.member a.to a.bytes.now c.in_ok-bytes.bytes a.self.site (skips_of a.self.site.world) c.requires c.in_ok-bytes.ensures.cases

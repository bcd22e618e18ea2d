use Rattle.std.proofs.Common.{subst, sym}
use Rattle.std.proofs.lemmas.Result.{err_from_is_err_and}
use Rattle.ring_mail.specs.Skips.{Skips}
use Rattle.script_run.specs.States.{StandsNext}
use Rattle.script_run.proofs.Sending.{sent_next, sent_clash}
use Rattle.ring_world.specs.Skipping.{skips as skips_of}
use Rattle.script_run.proofs.state.State.sent.Goals as goal

pub returns-in_err-state-clause-fault : goal.returns-in_err-state-clause-fault
returns-in_err-state-clause-fault g c =
    let p = err_from_is_err_and c.from_residual.result c.from_residual.ensures.1 in
    rw (p.1, p.2)
    (sent_clash g.H.Hash160.naming c.args.script.now c.args.at c.requires.coming.line c.args.event c.args.self.site (skips_of c.args.self.site.world) c.in_err-state.field-0.0 c.requires.coming.turn c.requires.quiet c.in_err-state.ensures.fault)

pub returns-clause-stands : goal.returns-clause-stands
returns-clause-stands g c =
    subst (λ (left : Skips). StandsNext g.H.Hash160.naming c.args.script.now c.args.at c.in_ok-state.state.site left) (sym c.in_ok-state.ensures.skips)
    (sent_next g.H.Hash160.naming c.args.script.now c.args.at c.requires.coming.line c.args.event c.args.self.site c.in_ok-state.state.site (skips_of c.args.self.site.world) c.requires.coming.turn c.requires.coming.is_event c.requires.quiet
    c.in_ok-state.ensures.grew c.in_ok-state.ensures.stands)

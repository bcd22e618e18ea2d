use Rattle.std.proofs.lemmas.Result.{err_from_is_err_and}
use Rattle.script_terms.specs.declared.line.Line.TheVariants.{ForgeCommit}
use Rattle.script_run.proofs.Forgeries.{clash_next, commit_forged, commit_sent}
use Rattle.ring_world.specs.Skipping.{skips as skips_of}
use Rattle.script_run.proofs.state.State.forged_commit.Goals as goal

pub asked_name-requires-clause-sent : goal.asked_name-requires-clause-sent
asked_name-requires-clause-sent g c =
    let a = c.args in
    commit_sent c.lines_fit_in_turn.ensures.turn g.H.Hash160.naming a.script.now a.at a.member a.to a.seq a.client a.number a.self.site (skips_of a.self.site.world) c.requires

pub returns-in_err-state-clause-fault : goal.returns-in_err-state-clause-fault
returns-in_err-state-clause-fault g c =
    let p = err_from_is_err_and c.from_residual.result c.from_residual.ensures.1 in
    let a = c.args in
    rw (p.1, p.2) (clash_next g.H.Hash160.naming a.script.now a.at c.requires.number (ForgeCommit a.member a.to a.seq a.client a.number) c.in_err-state.field-0.0 c.requires.here c.in_err-state.ensures.fault)

pub forged-requires : goal.forged-requires
forged-requires g c =
    let a = c.args in
    commit_forged c.lines_fit_in_turn.ensures.turn g.H.Hash160.naming a.script.now a.at a.member a.to a.seq a.client a.number c.in_ok-state.name a.self.site c.in_ok-state.state.site (skips_of a.self.site.world) (skips_of c.in_ok-state.state.site.world) c.requires
    c.in_ok-state.ensures.stands c.in_ok-state.ensures.name

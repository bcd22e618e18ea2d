use Rattle.std.proofs.Common.{◌∙◌}
use Rattle.dissemination.proofs.Stepping.{parents_same}
use Rattle.dissemination.proofs.pushing.take_version.Goals as goal

pub returns-in-Err-clause-parents : goal.returns-in-Err-clause-parents
returns-in-Err-clause-parents g c = parents_same c.walk.new.replicas c.args.replicas.now c.walk.ensures.others

pub returns-in_err-take_last-clause-parents : goal.returns-in_err-take_last-clause-parents
returns-in_err-take_last-clause-parents g c = c.take_last.ensures.parents ∙ parents_same c.walk.new.replicas c.args.replicas.now c.walk.ensures.others

pub returns-clause-parents : goal.returns-clause-parents
returns-clause-parents g c = c.take_last.ensures.parents ∙ parents_same c.walk.new.replicas c.args.replicas.now c.walk.ensures.others

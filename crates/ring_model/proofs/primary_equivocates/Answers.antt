use Rattle.ring_model.proofs.Schedules.{primary_equivocates as law}
use Rattle.ring_model.proofs.primary_equivocates.Goals as goal

pub returns : goal.returns
returns c = law

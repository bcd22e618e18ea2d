use Rattle.ring_model.proofs.Schedules.{prepared_is_not_committed as law}
use Rattle.ring_model.proofs.prepared_is_not_committed.Goals as goal

pub returns : goal.returns
returns c = law

use Rattle.ring_model.proofs.Schedules.{one_heart_is_not_believed as law}
use Rattle.ring_model.proofs.one_heart_is_not_believed.Goals as goal

pub returns : goal.returns
returns c = law

use Rattle.ring_model.proofs.Schedules.{full_delivery as law}
use Rattle.ring_model.proofs.full_delivery.Goals as goal

pub returns : goal.returns
returns c = law

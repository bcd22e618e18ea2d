use Rattle.ring_model.proofs.Schedules.{first_order_stands as law}
use Rattle.ring_model.proofs.first_order_stands.Goals as goal

pub returns : goal.returns
returns c = law

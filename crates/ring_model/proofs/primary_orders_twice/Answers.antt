use Rattle.ring_model.proofs.Schedules.{primary_orders_twice as law}
use Rattle.ring_model.proofs.primary_orders_twice.Goals as goal

pub returns : goal.returns
returns c = law

use Rattle.ring_model.proofs.Schedules.{ordered_by_number as law}
use Rattle.ring_model.proofs.ordered_by_number.Goals as goal

pub returns : goal.returns
returns c = law

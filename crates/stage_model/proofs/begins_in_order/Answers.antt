use Rattle.stage_model.proofs.Moves.{begins_in_order}
use Rattle.stage_model.proofs.begins_in_order.Goals as goal

pub returns : goal.returns
returns g c = begins_in_order _

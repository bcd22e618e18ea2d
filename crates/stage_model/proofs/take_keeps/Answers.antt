use Rattle.stage_model.proofs.Moves.{take_keeps}
use Rattle.stage_model.proofs.take_keeps.Goals as goal

pub returns : goal.returns
returns g c = take_keeps

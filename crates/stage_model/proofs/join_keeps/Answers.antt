use Rattle.stage_model.proofs.Moves.{join_keeps}
use Rattle.stage_model.proofs.join_keeps.Goals as goal

pub returns : goal.returns
returns g c = join_keeps

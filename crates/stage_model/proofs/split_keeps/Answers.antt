use Rattle.stage_model.proofs.Moves.{split_keeps}
use Rattle.stage_model.proofs.split_keeps.Goals as goal

pub returns : goal.returns
returns g c = split_keeps

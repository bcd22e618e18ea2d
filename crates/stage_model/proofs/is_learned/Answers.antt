use Rattle.stage_model.proofs.Moves.{is_learned}
use Rattle.stage_model.proofs.is_learned.Goals as goal

pub returns : goal.returns
returns g c = is_learned

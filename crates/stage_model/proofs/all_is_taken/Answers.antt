use Rattle.stage_model.proofs.Moves.{all_is_taken}
use Rattle.stage_model.proofs.all_is_taken.Goals as goal

pub returns : goal.returns
returns g c = all_is_taken

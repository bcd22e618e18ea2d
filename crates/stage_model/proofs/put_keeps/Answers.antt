use Rattle.stage_model.proofs.Moves.{put_keeps}
use Rattle.stage_model.proofs.put_keeps.Goals as goal

pub returns : goal.returns
returns g c = put_keeps

use Rattle.ring_model.proofs.Answered.{all_told as law}
use Rattle.ring_model.proofs.all_told.Goals as goal

pub returns : goal.returns
returns c = law

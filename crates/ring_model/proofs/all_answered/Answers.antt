use Rattle.ring_model.proofs.Answered.{all_answered as law}
use Rattle.ring_model.proofs.all_answered.Goals as goal

pub returns : goal.returns
returns c = law

use Rattle.fold_model.proofs.Joined.{ring_is_read as law}
use Rattle.fold_model.proofs.ring_is_read.Goals as goal

pub returns : goal.returns
returns c = law

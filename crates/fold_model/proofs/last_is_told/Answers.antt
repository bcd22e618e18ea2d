use Rattle.fold_model.proofs.Told.{last_is_told as law}
use Rattle.fold_model.proofs.last_is_told.Goals as goal

pub returns : goal.returns
returns c = law

use Rattle.fold_model.proofs.Joined.{heart_is_version as law}
use Rattle.fold_model.proofs.heart_is_version.Goals as goal

pub returns : goal.returns
returns c = law

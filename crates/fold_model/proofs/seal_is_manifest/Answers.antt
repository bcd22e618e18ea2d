use Rattle.fold_model.proofs.Joined.{seal_is_manifest as law}
use Rattle.fold_model.proofs.seal_is_manifest.Goals as goal

pub returns : goal.returns
returns c = law

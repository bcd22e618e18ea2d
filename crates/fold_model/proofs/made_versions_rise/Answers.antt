use Rattle.fold_model.proofs.Labels.{made_versions_rise as law}
use Rattle.fold_model.proofs.made_versions_rise.Goals as goal

pub returns : goal.returns
returns c = law

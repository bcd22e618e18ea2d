use Rattle.fold_model.proofs.Labels.{heart_is_of_label as law}
use Rattle.fold_model.proofs.heart_is_of_label.Goals as goal

pub returns : goal.returns
returns c = law

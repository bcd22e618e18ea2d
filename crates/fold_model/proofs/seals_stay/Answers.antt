use Rattle.fold_model.specs.Growing.{seals_stay as law}
use Rattle.fold_model.proofs.seals_stay.Goals as goal

pub returns : goal.returns
returns c = law

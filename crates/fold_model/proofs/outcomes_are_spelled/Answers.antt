use Rattle.fold_model.proofs.Outcomes.{outcomes_are_spelled as law}
use Rattle.fold_model.proofs.outcomes_are_spelled.Goals as goal

pub returns : goal.returns
returns c = law

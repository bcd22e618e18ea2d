use Rattle.object_fold.proofs.ExecutedLemmas.{few_made_by}
use Rattle.object_fold.proofs.laws.versions_are_few.Goals as goal

pub returns : goal.returns
returns c = few_made_by

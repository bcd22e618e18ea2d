use Rattle.object_fold.proofs.Kept.{known_still}
use Rattle.object_fold.proofs.laws.objects_stay_known.Goals as goal

pub returns : goal.returns
returns c = known_still

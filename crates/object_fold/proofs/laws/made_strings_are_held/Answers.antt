use Rattle.object_fold.proofs.Kept.{made_held}
use Rattle.object_fold.proofs.laws.made_strings_are_held.Goals as goal

pub returns : goal.returns
returns c = made_held

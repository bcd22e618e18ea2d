use Rattle.std.proofs.Common.{refl}
use Rattle.object_model.specs.Pieces.{pieces}
use Rattle.object_model.proofs.worked_trees.Goals as goal

pub returns : goal.returns
unfolding pieces
returns c = record { empty = λ h. refl; one_leaf = λ h. refl; two_leaves = λ h. refl }

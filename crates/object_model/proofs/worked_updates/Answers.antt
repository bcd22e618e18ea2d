use Rattle.std.proofs.Common.{refl}
use Rattle.object_model.proofs.worked_updates.Goals as goal

pub returns : goal.returns
returns c = record { first = λ h. refl; second = λ h. refl; none = λ h. refl; failing = λ h. refl }

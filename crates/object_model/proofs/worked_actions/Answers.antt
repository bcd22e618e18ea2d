use Rattle.std.proofs.Common.{refl}
use Rattle.object_model.proofs.worked_actions.Goals as goal

pub returns : goal.returns
returns c = record { append = refl; replace = refl; replace_past = refl; truncate = refl; truncate_past = refl; splice = refl; delete = refl; splice_past = refl }

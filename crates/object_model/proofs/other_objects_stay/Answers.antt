use Rattle.object_model.specs.Folds.{effect, made_by}
use Rattle.object_model.proofs.LawLemmas.{with_effect_other}
use Rattle.object_model.proofs.other_objects_stay.Goals as goal

pub returns : goal.returns
returns c = λ h block label request earlier other. with_effect_other label request.label (effect h block request earlier (made_by h block earlier)) (made_by h block earlier) other

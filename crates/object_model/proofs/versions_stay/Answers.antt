use Rattle.object_model.specs.Folds.{effect, made_by}
use Rattle.object_model.proofs.LawLemmas.{with_effect_more}
use Rattle.object_model.proofs.versions_stay.Goals as goal

pub returns : goal.returns
returns c = λ h block label request earlier. with_effect_more label request.label (effect h block request earlier (made_by h block earlier)) (made_by h block earlier)

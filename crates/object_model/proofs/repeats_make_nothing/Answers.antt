use Rattle.std.proofs.Common.{cond, ap}
use Rattle.object_model.specs.Updates.{outcome}
use Rattle.object_model.specs.Folds.{Repeats, effect_of_outcome, with_effect, versions_of, made_by}
use Rattle.object_model.proofs.repeats_make_nothing.Goals as goal

pub returns : goal.returns
returns c = λ h block request earlier repeat.
    ap (λ b. with_effect request.label (cond b Repeats (effect_of_outcome (outcome h block request.update.clauses (versions_of request.label (made_by h block earlier))))) (made_by h block earlier)) repeat

use Rattle.object_model.proofs.LawLemmas.{act_all_short}
use Rattle.object_model.proofs.versions_are_short.Goals as goal

pub returns : goal.returns
returns c = act_all_short

use Rattle.message_model.proofs.Meant.{others_are_foreign}
use Rattle.message_model.proofs.others_are_foreign.Goals as goal

pub returns : goal.returns
returns c = others_are_foreign

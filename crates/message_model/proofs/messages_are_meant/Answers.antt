use Rattle.message_model.proofs.Meant.{messages_are_meant}
use Rattle.message_model.proofs.messages_are_meant.Goals as goal

pub returns : goal.returns
returns c = messages_are_meant

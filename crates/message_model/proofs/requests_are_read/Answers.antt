use Rattle.message_model.proofs.Meant.{requests_are_read}
use Rattle.message_model.proofs.requests_are_read.Goals as goal

pub returns : goal.returns
returns c = requests_are_read

use Rattle.message_model.proofs.Meant.{only_requests_are_read}
use Rattle.message_model.proofs.only_requests_are_read.Goals as goal

pub returns : goal.returns
returns c = only_requests_are_read

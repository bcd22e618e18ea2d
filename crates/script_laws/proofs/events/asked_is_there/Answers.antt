use Rattle.script_laws.proofs.Submits.{asked_is_there}
use Rattle.script_laws.proofs.events.asked_is_there.Goals as goal

pub returns : goal.returns
returns c = asked_is_there

use Rattle.ring_model.proofs.Schedules.{two_senders_are_not_three as law}
use Rattle.ring_model.proofs.two_senders_are_not_three.Goals as goal

pub returns : goal.returns
returns c = law

use Rattle.ring_model.proofs.Schedules.{muted_member as law}
use Rattle.ring_model.proofs.muted_member.Goals as goal

pub returns : goal.returns
returns c = law

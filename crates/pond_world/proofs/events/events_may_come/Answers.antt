use Rattle.pond_world.proofs.Coming.{events_may_come as law}
use Rattle.pond_world.proofs.events.events_may_come.Goals as goal

pub returns : goal.returns
returns c = law

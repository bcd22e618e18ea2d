use Rattle.heartbeat.proofs.Joined.{seals_join}
use Rattle.heartbeat.proofs.laws.seals_join.Goals as goal

pub returns : goal.returns
returns c = seals_join

use Rattle.heartbeat.proofs.Joined.{hearts_join}
use Rattle.heartbeat.proofs.laws.hearts_join.Goals as goal

pub returns : goal.returns
returns c = hearts_join

use Rattle.heartbeat.proofs.Joined.{newest_joins}
use Rattle.heartbeat.proofs.laws.newest_joins.Goals as goal

pub returns : goal.returns
returns c = newest_joins

use Rattle.std.proofs.Common.{refl}
use Rattle.heartbeat.proofs.Standing.{standing, nothing_held}
use Rattle.heartbeat.proofs.votes.Votes.new.Goals as goal

pub returns : goal.returns
returns c = standing c.args.need c.args.need c.new.result.entries _ refl (nothing_held c.args.need c.new.result.entries c.new.ensures.empty)

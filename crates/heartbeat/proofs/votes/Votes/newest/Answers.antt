use Rattle.std.proofs.Common.{ap, ◌∙◌}
use Rattle.heartbeat.proofs.Standing.{held}
use Rattle.heartbeat.proofs.Latest.{newest_is}
use Rattle.heartbeat.proofs.Own.{all_found}
use Rattle.heartbeat.proofs.votes.Votes.newest.Goals as goal

pub returns : goal.returns
returns c = λ need votes stands.
    c.newest_in.ensures.value
    ∙ newest_is need c.args.object c.self.inside.entries.entries votes (all_found c.self.inside.entries c.newest_in.ensures.ordered) (held need c.args.self.now c.self.inside.entries.entries votes (ap (λ b. b.entries) c.self.view_is) stands)

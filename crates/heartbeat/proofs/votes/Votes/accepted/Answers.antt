use Rattle.std.proofs.Common.{rules, ap, sym, ◌∙◌, ◌≡◌, Some, None}
use Rattle.heartbeat.specs.Boards.{key_of, kept_at, value_at}
use Rattle.heartbeat.proofs.Standing.{held}
use Rattle.heartbeat.proofs.votes.Votes.accepted.Goals as goal

pub returns-in-Some : goal.returns-in-Some
returns-in-Some c = λ need votes stands.
    let found : kept_at c.self.inside.entries.entries (key_of c.args.object c.args.version.0) ≡ Some c.in-Some.entry.now = search rules in
    sym (ap value_at found) ∙ (held need c.args.self.now c.self.inside.entries.entries votes (ap (λ b. b.entries) c.self.view_is) stands).values c.args.object c.args.version.0

pub returns-in-None : goal.returns-in-None
returns-in-None c = λ need votes stands.
    let found : kept_at c.self.inside.entries.entries (key_of c.args.object c.args.version.0) ≡ None = search rules in
    sym (ap value_at found) ∙ (held need c.args.self.now c.self.inside.entries.entries votes (ap (λ b. b.entries) c.self.view_is) stands).values c.args.object c.args.version.0

use Rattle.std.proofs.Common.{ap, sym, ◌∙◌}
use Rattle.heartbeat.specs.Boards.{first_at}
use Rattle.heartbeat.proofs.Standing.{held, standing, held_then}
use Rattle.heartbeat.proofs.votes.Votes.take.Goals as goal

pub returns-in_default-clause-memory : goal.returns-in_default-clause-memory
returns-in_default-clause-memory c = λ need votes stands j.
    sym ((held need c.args.self.now c.self.inside.entries.entries votes (ap (λ b. b.entries) c.self.view_is) stands).firsts c.args.object c.args.version.0 j)
    ∙ ap (λ k. first_at k j) c.in_default.ensures.memory

pub returns-clause-stands : goal.returns-clause-stands
returns-clause-stands c = λ need votes stands.
    let number = ap (λ b. b.need) c.self.view_is ∙ stands.needs in
    standing need c.self.inside.need c.take.new.entries.entries _ number
    (held_then c.self.inside.need need c.self.inside.entries.entries c.take.new.entries.entries _ votes number c.in-Ok.ensures.first c.in-Ok.ensures.accepted
    (held need c.args.self.now c.self.inside.entries.entries votes (ap (λ b. b.entries) c.self.view_is) stands))

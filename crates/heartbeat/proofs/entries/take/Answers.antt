use Rattle.std.proofs.Common.{ap, ◌∙◌, Some}
use Rattle.std.specs.Option.{option_or}
use Rattle.quorum.specs.Tallies.{said_by}
use Rattle.heartbeat.specs.Votes.{believed_then}
use Rattle.heartbeat.specs.Boards.{first_at}
use Rattle.heartbeat.proofs.Standing.{put_firsts, put_values}
use Rattle.heartbeat.proofs.entries.take.Goals as goal

pub returns-in-Ok-clause-first : goal.returns-in-Ok-clause-first
returns-in-Ok-clause-first c =
    put_firsts c.args.need c.args.member.0 c.args.object c.args.version.0 c.args.value c.args.entries.now.entries c.insert.new.self.entries c.cast.new.self (λ k. c.in-Ok.ensures.updates.0 k)
    (λ j. c.cast.ensures.first j ∙ ap (λ x. option_or x (said_by c.args.member.0 c.args.value j)) (c.entry_of-entry.ensures.first j))

pub returns-in-Ok-clause-accepted : goal.returns-in-Ok-clause-accepted
returns-in-Ok-clause-accepted c =
    put_values c.args.need c.args.member.0 c.args.object c.args.version.0 c.args.value c.args.entries.now.entries c.insert.new.self.entries c.cast.new.self (λ k. c.in-Ok.ensures.updates.0 k)
    (c.cast.ensures.accepted ∙ ap (λ x. believed_then c.args.need x (first_at (Some c.cast.new.self)) (Some c.args.value)) c.entry_of-entry.ensures.accepted)

use Rattle.std.proofs.Common.{ap, ◌∙◌, ◌+◌, ◌*◌, nat_le, Some}
use Rattle.std.specs.Option.{option_or}
use Rattle.ring_model.specs.History.{passing}
use Rattle.ring_message.specs.Spelling.{outcome_string}
use Rattle.client_core.specs.Replies.{first_at, count_at}
use Rattle.client_core.proofs.Replied.{put_values}
use Rattle.client_core.proofs.replies.take.Goals as goal

pub returns-in-Ok-clause-accepted : goal.returns-in-Ok-clause-accepted
returns-in-Ok-clause-accepted c =
    put_values c.args.f c.args.member.0 c.args.number (outcome_string c.args.outcome.now) c.args.replies.now.entries c.insert.new.self.entries c.cast.new.self (λ k. c.in-Ok.ensures.updates.0 k)
    (c.cast.ensures.accepted ∙ ap (λ x. option_or x (passing (λ s. nat_le (c.args.f + 1) (count_at (3 * c.args.f + 1) (first_at (Some c.cast.new.self)) s)) (Some (outcome_string c.args.outcome.now)))) c.entry_of-entry.ensures.accepted)

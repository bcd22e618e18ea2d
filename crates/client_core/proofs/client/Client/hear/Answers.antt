use Rattle.std.proofs.Common.{◌≡◌, ◌+◌, refl, ap, rules}
use Rattle.ring_message.specs.declared.message.Message.TheVariants.{Reply, Heart, Sealed}
use Rattle.ring_message.specs.Spelling.{outcome_string}
use Rattle.ring_model.specs.Messages as model
use Rattle.message_model.specs.Meaning.{said}
use Rattle.heartbeat.specs.Joins.{heart_told, seal_told, votes_in}
use Rattle.client_core.proofs.Replied.{replies_more}
use Rattle.client_core.proofs.Silent.{replies_unsaid}
use Rattle.client_core.proofs.Standing.{told_said, on_ok, on_both}
use Rattle.client_core.proofs.client.Client.hear.Goals as goal

pub returns-in-Reply-clause-stands : goal.returns-in-Reply-clause-stands
returns-in-Reply-clause-stands c =
    let is : c.args.message.now ≡ Reply c.in-Reply.number c.in-Reply.outcome = search rules in
    on_both c.take.result c.take.ensures.first c.take.ensures.accepted (λ firsts values g k submits got low stands.
    told_said c.args.self.now _ g k submits got c.args.member.0 c.args.message.now (model.Reply c.in-Reply.number (outcome_string c.in-Reply.outcome)) (ap said is) refl refl refl low
    (replies_more g c.args.self.now.f c.args.member.0 c.in-Reply.number (outcome_string c.in-Reply.outcome) c.args.self.now.replies.entries c.take.new.replies.entries got stands.faulty firsts values stands.replies)
    stands.hearts stands.seals stands)

pub returns-in-Heart-clause-stands : goal.returns-in-Heart-clause-stands
returns-in-Heart-clause-stands c =
    let is : c.args.message.now ≡ Heart c.in-Heart.object c.in-Heart.version c.in-Heart.name = search rules in
    on_ok c.take-in-Heart.result c.take-in-Heart.ensures.stands (λ voted g k submits got low stands.
    told_said c.args.self.now _ g k submits got c.args.member.0 c.args.message.now (model.Heart c.in-Heart.object c.in-Heart.version.0 c.in-Heart.name) (ap said is) refl refl refl low
    (replies_unsaid g c.args.self.now.replies.entries (record { from = model.Member c.args.member.0; message = model.Heart c.in-Heart.object c.in-Heart.version.0 c.in-Heart.name }) got (λ n. refl) stands.replies)
    (voted (g.f + 1) (votes_in heart_told got) stands.hearts) stands.seals stands)

pub returns-in-Sealed-clause-stands : goal.returns-in-Sealed-clause-stands
returns-in-Sealed-clause-stands c =
    let is : c.args.message.now ≡ Sealed c.in-Sealed.object c.in-Sealed.version c.in-Sealed.manifest = search rules in
    on_ok c.take-in-Sealed.result c.take-in-Sealed.ensures.stands (λ voted g k submits got low stands.
    told_said c.args.self.now _ g k submits got c.args.member.0 c.args.message.now (model.Sealed c.in-Sealed.object c.in-Sealed.version.0 c.in-Sealed.manifest) (ap said is) refl refl refl low
    (replies_unsaid g c.args.self.now.replies.entries (record { from = model.Member c.args.member.0; message = model.Sealed c.in-Sealed.object c.in-Sealed.version.0 c.in-Sealed.manifest }) got (λ n. refl) stands.replies)
    stands.hearts (voted (g.f + 1) (votes_in seal_told got) stands.seals) stands)

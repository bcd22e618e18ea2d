use Rattle.std.proofs.Common.{◌≡◌, ◌∷◌, ◌+◌, ◌*◌, ◌<◌, ap, sym, subst, ◌∙◌, rules, arith}
use Rattle.pond_base.specs.declared.numbers.Party.TheVariants as party
use Rattle.ring_model.specs.Messages as model
use Rattle.ring_model.specs.World.{IsParty}
use Rattle.ring_message.specs.Grammar.{IsMessage}
use Rattle.ring_message.specs.Spelling.{message_string}
use Rattle.message_model.specs.Meaning.{meaning, who, said, letter}
use Rattle.client_core.specs.Clients.{ClientStands}
use Rattle.client_core.proofs.Standing.{told_by_client, told_foreign, on_ok}
use Rattle.client_core.proofs.client.Client.take.Goals.{in_default-2-via-in-Some+else-member-lt-MOST_MEMBERS, in_default-2-via-in_default-2}
use Rattle.client_core.proofs.client.Client.take.Goals as goal

pub returns-in_default-clause-stands : goal.returns-in_default-clause-stands
returns-in_default-clause-stands c = λ g k submits got known stands.
    let from : c.args.from ≡ party.Client c.in_default.field-0 = search rules in
    subst (λ p. ClientStands c.args.self.now g k submits (letter p c.args.bytes.now ∷ got)) (sym from)
    (told_by_client c.args.self.now g k submits got c.in_default.field-0.0 (meaning c.args.bytes.now) (subst (λ p. IsParty g (who p)) from known) stands)

pub returns-in-Some-clause-stands : goal.returns-in-Some-clause-stands
returns-in-Some-clause-stands c =
    let from : c.args.from ≡ party.Member c.in-Member.member = search rules in
    let read : (c.args.bytes.now ≡ message_string c.in-Some.message) × IsMessage c.in-Some.message = search rules in
    let means : meaning c.args.bytes.now ≡ said c.in-Some.message = ap meaning read.0 ∙ c.messages_are_meant.ensures c.in-Some.message read.1 in
    on_ok c.hear.result c.hear.ensures.stands (λ heard g k submits got known stands.
    subst (λ p. ClientStands c.hear.new.self g k submits (letter p c.args.bytes.now ∷ got)) (sym from)
    (subst (λ m. ClientStands c.hear.new.self g k submits (record { from = model.Member c.in-Member.member.0; message = m } ∷ got)) (sym means)
    (heard g k submits got (subst (λ p. IsParty g (who p)) from known) stands)))

pub returns-in_default-2-clause-stands : goal.returns-in_default-2-clause-stands
returns-in_default-2-clause-stands c = λ g k submits got known stands.
    let from : c.args.from ≡ party.Member c.in-Member.member = search rules in
    let low : c.in-Member.member.0 < 3 * g.f + 1 = subst (λ p. IsParty g (who p)) from known in
    elim c.in_default-2.branch [
      | in_default-2-via-in-Some+else-member-lt-MOST_MEMBERS w ↦ absurd (omega (arith, low, stands.faulty, c.args.self.now.few, w.if-member-lt-MOST_MEMBERS))
      | in_default-2-via-in_default-2 w ↦
          told_foreign c.args.self.now g k submits got c.args.from c.args.bytes.now c.others_are_foreign.ensures (λ m is spelled. cc (c.in_ok-message.ensures.spelled m is spelled, w.in_default-2.is)) known stands
    ]

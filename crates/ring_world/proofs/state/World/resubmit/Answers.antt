use Rattle.std.proofs.Common.{◌≡◌, ◌+◌, ◌-◌, ◌++◌, length, get_or, filter, map, ap, ◌∙◌, sym, subst, arith}
use Rattle.std.proofs.lemmas.List.{length-map}
use Rattle.ring_model.specs.Messages.{Client as client}
use Rattle.ring_model.proofs.Lists.{at_some}
use Rattle.client_core.specs.declared.client.Client.{Client}
use Rattle.ring_mail.specs.Mails.{IsMail}
use Rattle.ring_world.specs.Deliveries.{packet_from}
use Rattle.ring_world.proofs.Telling.{of, client_at}
use Rattle.ring_world.proofs.Requests.{asked_again, resubmitted}
use Rattle.ring_world.proofs.state.World.resubmit.Goals as goal

pub returns-clause-ok : goal.returns-clause-ok
returns-clause-ok g c = λ h r v done ring is order.
    let k = c.args.client.0 in
    let one = c.index.result.now in
    let stood = client_at g.N.Node.stands r c.args.self.now v done k one one c.requires.0.1 c.index.ensures is in
    let size : length one.requests.items ≡ length (filter (of r k) v.submits) = sym (length-map one.requests.items (λ asked. asked.text)) ∙ ap length stood.requests in
    let mine : length one.requests.items ≡ length (get_or c.args.self.now.clients.items k one).requests.items = ap (λ (x : Client). length x.requests.items) c.index.ensures in
    let text = at_some (filter (of r k) v.submits) (c.args.number - 1) (omega (arith, size, mine, c.requires.1, c.requires.2 one)) in
    let next : c.args.number ≡ c.args.number - 1 + 1 = omega (arith, c.requires.1) in
    resubmitted g.N.Node.stands r c.args.self.now v done k c.args.number text.0 c.post.new.mail (asked_again r v.submits k c.args.number (c.args.number - 1) text.0 next text.1 order)
    (subst (λ xs. IsMail c.post.new.mail (v.sent ++ xs) done)
    (ap (map (packet_from (client k))) c.deref.ensures.value ∙ c.in_ok-messages.ensures.sent r k (filter (of r k) v.submits) (v.got (client k)) text.0 stood text.1)
    (c.in_ok-post.ensures.mail v.sent done is.mail_is)) is

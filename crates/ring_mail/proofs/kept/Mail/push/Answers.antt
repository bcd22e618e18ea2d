use Rattle.message_model.specs.Meaning.{who}
use Rattle.ring_mail.proofs.Mailing.{pushed}
use Rattle.ring_mail.proofs.kept.Mail.push.Goals as goal

pub returns-clause-mail : goal.returns-clause-mail
returns-clause-mail c = λ sent done h.
    pushed c.args.self.now c.keep.new.self c.wait.new.self (who c.args.from) (who c.args.to) c.args.bytes c.link.result c.in_ok-place.place c.in_ok-place.number sent done c.requires.0 c.requires.1 c.link.ensures
    (c.in_ok-place.ensures.place sent done h) (c.in_ok-place.ensures.number sent done h) (c.in_ok-place.ensures.kept sent done h) c.in_ok-place.ensures.lost c.in_ok-place.ensures.queue
    c.in_ok-wait.ensures.waits c.in_ok-wait.ensures.heads c.in_ok-wait.ensures.links c.in_ok-wait.ensures.order c.in_ok-wait.ensures.front c.in_ok-wait.ensures.lost h

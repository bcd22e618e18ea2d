use Rattle.std.proofs.Common.{◌≡◌, List, ◌-◌, length}
use Rattle.ring_model.specs.Messages.{Packet}
use Rattle.ring_model.specs.Places.{Place}
use Rattle.ring_mail.specs.Mails.{IsMail}
use Rattle.ring_mail.proofs.kept.Mail.advance.Given as goal

abbrev pub invariant-loop-self : goal.invariant-loop-self
invariant-loop-self l = record {
  mail : (sent : List Packet) (done : List Place) → IsMail l.fn.self sent done → IsMail l.self sent done;
  lost : l.self.lost ≡ l.fn.self.lost;
  queue : l.self.queue ≡ l.fn.self.queue;
}

abbrev pub decreases-loop-self : goal.decreases-loop-self
decreases-loop-self l = length l.self.order.items - l.self.front

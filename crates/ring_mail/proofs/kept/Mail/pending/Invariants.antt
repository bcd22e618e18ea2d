use Rattle.std.proofs.Common.{◌≡◌, List, find, drop, not}
use Rattle.ring_model.specs.Messages.{Packet}
use Rattle.ring_model.specs.Places.{Place, places, is_done}
use Rattle.ring_mail.specs.Mails.{IsMail}
use Rattle.ring_mail.proofs.kept.Mail.pending.Given as goal

abbrev pub invariant-loop-number : goal.invariant-loop-number
invariant-loop-number l = (sent : List Packet) (done : List Place) → IsMail l.self sent done → find (λ a. not (is_done done a)) (places sent) ≡ find (λ a. not (is_done done a)) (drop l.number (places sent))

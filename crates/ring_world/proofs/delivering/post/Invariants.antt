use Rattle.std.proofs.Common.{◌≡◌, List, map, take, ◌++◌}
use Rattle.ring_model.specs.Messages.{Packet}
use Rattle.message_model.specs.Meaning.{who}
use Rattle.ring_model.specs.Places.{Place}
use Rattle.ring_mail.specs.Mails.{IsMail}
use Rattle.ring_mail.specs.Skips.{skips}
use Rattle.ring_world.specs.Deliveries.{packet_from}
use Rattle.ring_world.proofs.delivering.post.Given as goal

abbrev pub invariant-loop-one : goal.invariant-loop-one
invariant-loop-one l = record {
  mail : (sent : List Packet) (done : List Place) → IsMail l.fn.mail sent done → IsMail l.mail (sent ++ map (packet_from (who l.from)) (take l.one-index l.out)) done;
  skips : skips l.mail ≡ skips l.fn.mail;
}

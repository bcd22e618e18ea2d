use Rattle.std.proofs.Common.{arith}
use Rattle.ring_mail.proofs.Keeping.{front_more}
use Rattle.ring_mail.proofs.kept.Mail.advance.Goals as goal

pub loop-self-preserved : goal.loop-self-preserved
loop-self-preserved c = record {
  mail = λ sent done h.
      let m = c.loop-self.invariant.mail sent done h in
      record {
        kept = front_more c.loop-self.self c.index.result.now c.is_delivered.result sent done (omega (arith, c.loop-self-test.true, c.len.ensures, c.loop-self.self.order.ok.0)) c.index.ensures c.is_delivered.ensures c.if-is_delivered.true m;
        waiting = m.waiting;
        heads_are = m.heads_are;
      };
  lost = c.loop-self.invariant.lost;
  queue = c.loop-self.invariant.queue;
}

use Rattle.std.proofs.Common.{ap}
use Rattle.client_core.proofs.Sending.{packet, sent_more}
use Rattle.client_core.proofs.asking.to_each.Goals as goal

pub loop-number-preserved : goal.loop-number-preserved
loop-number-preserved c = λ k.
    sent_more k c.loop-number.number c.args.message.now c.loop-number.outs.items c.push.new.self.items _ c.in_ok-push.ensures.items (ap (packet k c.loop-number.number) c.in_ok-clone.ensures.cases) (c.loop-number.invariant k)

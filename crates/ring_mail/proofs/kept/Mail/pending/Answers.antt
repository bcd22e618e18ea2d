use Rattle.std.proofs.Common.{◌<◌, length, sym, ◌∙◌, arith}
use Rattle.ring_mail.proofs.Keeping.{pending_front, pending_here, pending_later}
use Rattle.ring_mail.proofs.kept.Mail.pending.Goals as goal

pub loop-number-init : goal.loop-number-init
loop-number-init c = λ sent done h. pending_front c.args.self.now sent done h

pub returns-then-not-is_delivered : goal.returns-then-not-is_delivered
returns-then-not-is_delivered c = λ sent done h.
    let low : c.loop-number.number < length c.args.self.now.order.items = omega (arith, c.loop-number-test.true, c.loop-number.auto.number-end, c.len-number-end.ensures, c.args.self.now.order.ok.0) in
    sym (c.loop-number.invariant sent done h ∙ pending_here c.args.self.now c.loop-number.number c.index-note.result.now c.is_delivered.result sent done low c.index-note.ensures c.is_delivered.ensures c.if-not-is_delivered.true h)

pub loop-number-preserved : goal.loop-number-preserved
loop-number-preserved c = λ sent done h.
    let low : c.loop-number.number < length c.args.self.now.order.items = omega (arith, c.loop-number-test.true, c.loop-number.auto.number-end, c.len-number-end.ensures, c.args.self.now.order.ok.0) in
    c.loop-number.invariant sent done h ∙ pending_later c.args.self.now c.loop-number.number c.index-note.result.now c.is_delivered.result sent done low c.index-note.ensures c.is_delivered.ensures c.if-not-is_delivered.false h

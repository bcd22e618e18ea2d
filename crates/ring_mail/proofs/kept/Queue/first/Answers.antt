use Rattle.std.proofs.Common.{length, arith}
use Rattle.std.proofs.lemmas.Bool.{false_from_ne_true}
use Rattle.std.proofs.lemmas.Map.Keys.{le_from_not_gt}
use Rattle.ring_mail.specs.Queues.{waits}
use Rattle.ring_mail.proofs.Queueing.{head_there, head_waits, none_there, none_contained}
use Rattle.ring_mail.proofs.kept.Queue.first.Goals as goal

pub returns-in-Some-clause-found : goal.returns-in-Some-clause-found
returns-in-Some-clause-found c = λ h. head_waits c.args.self.now.waiting.items c.args.self.now.heads c.args.self.now.muted.items c.in-Some.head.now h c.in-Some.ensures.member

pub returns-in-Some-clause-least : goal.returns-in-Some-clause-least
returns-in-Some-clause-least c = λ h link other low loud t.
    let there = head_there c.args.self.now.waiting.items c.args.self.now.heads c.args.self.now.muted.items link other h low loud t in
    let least = le_from_not_gt c.in-Some.head.now _ (c.in-Some.ensures.least _ there.2) in
    omega (arith, least, low, there.1)

pub returns-in-None-clause-none : goal.returns-in-None-clause-none
returns-in-None-clause-none c = λ e h link other low loud.
    false_from_ne_true (waits c.args.self.now.waiting.items link other)
    (λ t.
    let there = head_there c.args.self.now.waiting.items c.args.self.now.heads c.args.self.now.muted.items link other h low loud t in
    none_contained c.args.self.now.heads _ (none_there (length c.args.self.now.heads.keys) c.in-None.ensures.variant.1) there.2)

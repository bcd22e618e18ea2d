use Rattle.std.proofs.Common.{ℕ, Bool, ap, Vec, arith}
use Rattle.std.specs.BTreeSet.{BTreeSet}
use Rattle.std.specs.declared.alloc.Global.{Global}
use Rattle.ring_mail.proofs.Queueing.{changed_as}
use Rattle.ring_mail.proofs.kept.Queue.remove.Goals as goal

pub returns-clause-heads : goal.returns-clause-heads
returns-clause-heads c = λ h.
    changed_as c.args.self.now.waiting.items c.hide.new.self.waiting.items c.show.new.self.waiting.items c.remove.new.self c.args.self.now.heads c.hide.new.self.heads c.show.new.self.heads
    c.args.self.now.muted.items c.hide.new.self.muted.items c.show.new.self.muted.items c.args.link (omega (arith, c.args.self.now.links, c.requires))
    (ap (λ (v : Vec (BTreeSet ℕ) Global). v.items) c.hide.ensures.waiting) (ap (λ (v : Vec (BTreeSet ℕ) Global). v.items) c.in_ok-show.ensures.waiting)
    (ap (λ (v : Vec Bool Global). v.items) c.hide.ensures.muted) (ap (λ (v : Vec Bool Global). v.items) c.in_ok-show.ensures.muted)
    c.remove.ensures.ordered c.hide.ensures.heads c.in_ok-show.ensures.heads h

use Rattle.std.proofs.Common.{ap, sym, ◌∙◌, cond, false, length}
use Rattle.std.specs.BTreeSet.{contains}
use Rattle.std.specs.Ordering.{nat_cmp}
use Rattle.std.proofs.lemmas.Option.{slice_get_read}
use Rattle.ring_mail.proofs.Queueing.{lead_is, lead_none, none_there}
use Rattle.ring_mail.proofs.kept.Queue.hide.Goals as goal

pub returns-in-Some-clause-heads : goal.returns-in-Some-clause-heads
returns-in-Some-clause-heads c = λ q.
    let there = slice_get_read c.args.self.now.waiting.items 676 c.args.link c.index.result.now (sym c.args.self.now.links) c.requires c.index.ensures in
    c.remove.ensures.updates.0 q
    ∙ ap (λ b. cond b false (contains nat_cmp c.args.self.now.heads q)) (sym (lead_is c.args.self.now.waiting.items c.index.result.now c.args.link c.in-Some.first.now c.head_of-head.result q there c.in-Some.ensures.first c.head_of-head.ensures.number c.head_of-head.ensures.link))

pub returns-in_default-clause-heads : goal.returns-in_default-clause-heads
returns-in_default-clause-heads c = λ q.
    let there = slice_get_read c.args.self.now.waiting.items 676 c.args.link c.index.result.now (sym c.args.self.now.links) c.requires c.index.ensures in
    sym (ap (λ b. cond b false (contains nat_cmp c.args.self.now.heads q)) (lead_none c.args.self.now.waiting.items c.index.result.now c.args.link q there (none_there (length c.index.result.now.keys) c.in_default.ensures.variant.1)))

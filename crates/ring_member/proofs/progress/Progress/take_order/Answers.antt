use Rattle.std.proofs.Common.{◌<◌, ◌≤◌, ◌++◌, ◌∷◌, length, map, ap, ap₂, sym, subst, ◌∙◌, arith}
use Rattle.ring_model.specs.Messages.{Prepare, Commit}
use Rattle.message_model.specs.Meaning.{said}
use Rattle.ring_member.specs.Views.{view_of, prepared_in}
use Rattle.ring_member.specs.Standing.{order, Live}
use Rattle.member_orders.specs.Told.{news_of}
use Rattle.ring_member.proofs.Executing.{ran_after, late_stands}
use Rattle.ring_member.proofs.Letters.{late_order, quiet_live, propose_live}
use Rattle.ring_member.proofs.Telling.{told_nothing, order_told}
use Rattle.ring_member.proofs.Whole.{whole_propose}
use Rattle.ring_member.proofs.progress.Progress.take_order.Goals as goal

pub returns-then-seq-len-clause-stands : goal.returns-then-seq-len-clause-stands
returns-then-seq-len-clause-stands c = λ g got st.
    let p = c.args.self.now in
    let l = order c.args.seq.0 c.args.request in
    let late : c.args.seq.0 ≤ length p.done = omega (arith, c.len.ensures, c.if-seq-len.true) in
    late_stands g p.f (view_of p) l got st (quiet_live g p.f (view_of p) got l st.live (late_order g (length p.done) c.args.seq.0 c.args.request late))

pub returns-then-seq-len-clause-told : goal.returns-then-seq-len-clause-told
returns-then-seq-len-clause-told c = λ g got st.
    let p = c.args.self.now in
    let l = order c.args.seq.0 c.args.request in
    let late : c.args.seq.0 ≤ length p.done = omega (arith, c.len.ensures, c.if-seq-len.true) in
    ap (map said) c.new-told.ensures.items
    ∙ sym (told_nothing g p.f (view_of p) got (l ∷ got) st (quiet_live g p.f (view_of p) got l st.live (late_order g (length p.done) c.args.seq.0 c.args.request late)))

pub returns-clause-stands : goal.returns-clause-stands
returns-clause-stands c = λ g got st.
    let p = c.args.self.now in
    let q = c.propose.new.self in
    let l = order c.args.seq.0 c.args.request in
    let above : length p.done < c.args.seq.0 = omega (arith, c.len.ensures, c.if-seq-len.false) in
    let live = propose_live g p.f (view_of p) (view_of q) got c.args.seq.0 c.args.request st.live c.in_ok-propose.ensures.proposes above c.requires.slot.1 in
    c.in_ok-advance.ensures.stands g (l ∷ got) (subst (λ k. Live g k (view_of q) (l ∷ got)) (sym c.in_ok-propose.ensures.faults) live)
    (ran_after g p.f (view_of p) (view_of q) l got st c.in_ok-propose.ensures.proposes.done_is)

pub returns-clause-told : goal.returns-clause-told
returns-clause-told c = λ g got st.
    let p = c.args.self.now in
    let q = c.propose.new.self in
    let t = c.args.seq.0 in
    let above : length p.done < t = omega (arith, c.len.ensures, c.if-seq-len.false) in
    c.in_ok-push_commit.ensures.told
    ∙ ap (λ xs. xs ++ news_of c.prepared-unprepared.result c.prepared-prepared.result (Commit t))
    (c.in_ok-push_prepare.ensures.told ∙ ap (λ ms. map said ms ++ news_of c.endorsed-unendorsed.result c.endorsed-endorsed.result (Prepare t)) c.new-told.ensures.items)
    ∙ ap₂ (λ xs ys. xs ++ ys) (ap₂ (λ o u. news_of o u (Prepare t)) c.endorsed-unendorsed.ensures c.endorsed-endorsed.ensures)
    (ap₂ (λ o u. news_of o u (Commit t)) c.prepared-unprepared.ensures (c.prepared-prepared.ensures ∙ ap (λ k. prepared_in k (view_of q) t) c.in_ok-propose.ensures.faults))
    ∙ order_told g p.f (view_of p) (view_of q) got t c.args.request st c.in_ok-propose.ensures.proposes above c.requires.slot.0 c.requires.slot.1

pub advance-requires : goal.advance-requires
advance-requires c = whole_propose c.args.self.now c.propose.new.self c.args.seq.0 c.args.request c.requires.whole c.in_ok-propose.ensures.proposes c.in_ok-propose.ensures.faults c.requires.slot

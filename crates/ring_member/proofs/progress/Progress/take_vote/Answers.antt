use Rattle.std.proofs.Common.{◌<◌, ◌≤◌, ◌++◌, ◌∷◌, length, map, ap, ap₂, sym, subst, ◌∙◌, arith}
use Rattle.ring_model.specs.Messages.{Commit}
use Rattle.message_model.specs.Meaning.{said}
use Rattle.vote_model.specs.Joins.{letter}
use Rattle.ring_member.specs.Views.{view_of, prepared_in}
use Rattle.ring_member.specs.Standing.{Live}
use Rattle.member_orders.specs.Told.{news_of}
use Rattle.ring_member.proofs.Executing.{ran_after, late_stands}
use Rattle.ring_member.proofs.Letters.{late_vote, quiet_live, cast_live}
use Rattle.ring_member.proofs.Telling.{told_nothing, vote_told}
use Rattle.ring_member.proofs.Whole.{whole_cast}
use Rattle.ring_member.proofs.progress.Progress.take_vote.Goals as goal

pub returns-then-seq-len-clause-stands : goal.returns-then-seq-len-clause-stands
returns-then-seq-len-clause-stands c = λ g got seat st.
    let p = c.args.self.now in
    let l = letter c.args.phase c.args.sender.0 c.args.seq.0 c.args.name in
    let late : c.args.seq.0 ≤ length p.done = omega (arith, c.len.ensures, c.if-seq-len.true) in
    late_stands g p.f (view_of p) l got st (quiet_live g p.f (view_of p) got l st.live (late_vote g (length p.done) c.args.phase c.args.sender.0 c.args.seq.0 c.args.name seat late))

pub returns-then-seq-len-clause-told : goal.returns-then-seq-len-clause-told
returns-then-seq-len-clause-told c = λ g got seat st.
    let p = c.args.self.now in
    let l = letter c.args.phase c.args.sender.0 c.args.seq.0 c.args.name in
    let late : c.args.seq.0 ≤ length p.done = omega (arith, c.len.ensures, c.if-seq-len.true) in
    ap (map said) c.new-told.ensures.items
    ∙ sym (told_nothing g p.f (view_of p) got (l ∷ got) st (quiet_live g p.f (view_of p) got l st.live (late_vote g (length p.done) c.args.phase c.args.sender.0 c.args.seq.0 c.args.name seat late)))

pub returns-clause-stands : goal.returns-clause-stands
returns-clause-stands c = λ g got seat st.
    let p = c.args.self.now in
    let q = c.cast.new.self in
    let l = letter c.args.phase c.args.sender.0 c.args.seq.0 c.args.name in
    let above : length p.done < c.args.seq.0 = omega (arith, c.len.ensures, c.if-seq-len.false) in
    let live = cast_live g p.f (view_of p) (view_of q) got c.args.phase c.args.sender.0 c.args.seq.0 c.args.name st.live c.in_ok-cast.ensures.casts above c.requires.slot.1 seat in
    c.in_ok-advance.ensures.stands g (l ∷ got) (subst (λ k. Live g k (view_of q) (l ∷ got)) (sym c.in_ok-cast.ensures.faults) live)
    (ran_after g p.f (view_of p) (view_of q) l got st c.in_ok-cast.ensures.casts.done_is)

pub returns-clause-told : goal.returns-clause-told
returns-clause-told c = λ g got seat st.
    let p = c.args.self.now in
    let q = c.cast.new.self in
    let above : length p.done < c.args.seq.0 = omega (arith, c.len.ensures, c.if-seq-len.false) in
    c.in_ok-push_commit.ensures.told
    ∙ ap (λ ms. map said ms ++ news_of c.prepared-before.result c.prepared-after.result (Commit c.args.seq.0)) c.new-told.ensures.items
    ∙ ap₂ (λ o u. news_of o u (Commit c.args.seq.0)) c.prepared-before.ensures (c.prepared-after.ensures ∙ ap (λ k. prepared_in k (view_of q) c.args.seq.0) c.in_ok-cast.ensures.faults)
    ∙ vote_told g p.f (view_of p) (view_of q) got c.args.phase c.args.sender.0 c.args.seq.0 c.args.name st c.in_ok-cast.ensures.casts above c.requires.slot.0 c.requires.slot.1 seat

pub advance-requires : goal.advance-requires
advance-requires c = whole_cast c.args.self.now c.cast.new.self c.args.phase c.args.seq.0 c.args.sender.0 c.args.name c.requires.whole c.in_ok-cast.ensures.casts c.in_ok-cast.ensures.faults c.requires.slot

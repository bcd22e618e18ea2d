use Rattle.std.proofs.Common.{◌≡◌, ◌≤◌, ℕ, List, ◌++◌, Some, find, refl, sym, ap, ◌∙◌, subst, arith}
use Rattle.std.proofs.lemmas.Result.{err_from_is_err_and}
use Rattle.ring_model.specs.Messages.{Packet}
use Rattle.ring_model.specs.World.{world}
use Rattle.ring_mail.specs.declared.kept.Note.{Note}
use Rattle.ring_model.specs.Places.{Place, places, is_due}
use Rattle.ring_mail.specs.Places.{place_of}
use Rattle.ring_mail.specs.Skips.{Skips, is_skipped}
use Rattle.ring_world.specs.Skipping.{skips}
use Rattle.ring_model.specs.Deliveries.{settled, deliveries}
use Rattle.ring_world.specs.Settles.{HoldsMore, Settles}
use Rattle.ring_world.proofs.Calls.{keeps_then}
use Rattle.ring_world.proofs.Settling.{swept_none, swept_one, swept_all, swept_most, more_none, turned_more, turned_failed, room_for, pending_declared}
use Rattle.ring_world.proofs.state.World.sweep.Goals as goal

-- what is due first is so by the skips of the beginning
next_first : (sent : List Packet) (done : List Place) (now first : Skips) (n : Note) → now ≡ first → Some (place_of n) ≡ find (is_due (is_skipped now) done) (places sent) → find (is_due (is_skipped first) done) (places sent) ≡ Some (place_of n)
next_first sent done now first n same e = sym (e ∙ ap (λ (s : Skips). find (is_due (is_skipped s) done) (places sent)) same)

pub loop-count-init : goal.loop-count-init
loop-count-init g c = record {
  going = refl;
  same = refl;
  known = c.requires;
  keeps = λ name string e. e;
  swept = λ r events ring h. swept_none g.N.Node.stands r (is_skipped (skips c.args.self.now)) events c.args.self.now h;
  more = λ r events ring h. more_none g.H.Hash160.naming r events c.args.book.now.held;
}

pub returns-in_default-clause-ok : goal.returns-in_default-clause-ok
returns-in_default-clause-ok g c = λ r events ring h.
    let s = skips c.args.self.now in
    let late = settled r (is_skipped s) events c.loop-count.count ++ events in
    let swept = c.loop-count.invariant.swept r events ring h in
    swept_all g.N.Node.stands r (is_skipped s) events c.loop-count.self c.loop-count.count
    (sym (c.in_default.ensures _ _ swept.is.is.mail_is ∙ ap (λ (s : Skips). find (is_due (is_skipped s) (deliveries r late)) (places (world r late).sent)) c.loop-count.invariant.same)) swept

pub loop-count-preserved : goal.loop-count-preserved
loop-count-preserved g c = record {
  going = c.in_ok-deliver.ensures.going ∙ c.loop-count.invariant.going;
  same = c.in_ok-deliver.ensures.skips ∙ c.loop-count.invariant.same;
  known = c.in_ok-deliver.ensures.known;
  keeps = keeps_then c.args.book.now.held c.loop-count.book.held c.deliver.new.book.held c.loop-count.invariant.keeps c.deliver.ensures.keeps;
  swept = λ r events ring h.
      let s = is_skipped (skips c.args.self.now) in
      let late = settled r s events c.loop-count.count ++ events in
      let swept = c.loop-count.invariant.swept r events ring h in
      let first = next_first (world r late).sent (deliveries r late) (skips c.loop-count.self) (skips c.args.self.now) c.in-Some.note c.loop-count.invariant.same (c.in-Some.ensures _ _ swept.is.is.mail_is) in
      let d = pending_declared r s late (place_of c.in-Some.note) swept.is.legal first in
      swept_one g.N.Node.stands r s events c.loop-count.self c.deliver.new.self c.loop-count.count (place_of c.in-Some.note) first swept
      (c.in_ok-deliver.ensures.ok r (world r late) (deliveries r late) ring swept.is.is d.0 d.1);
  more = λ r events ring h.
      let s = is_skipped (skips c.args.self.now) in
      let late = settled r s events c.loop-count.count ++ events in
      let swept = c.loop-count.invariant.swept r events ring h in
      let first = next_first (world r late).sent (deliveries r late) (skips c.loop-count.self) (skips c.args.self.now) c.in-Some.note c.loop-count.invariant.same (c.in-Some.ensures _ _ swept.is.is.mail_is) in
      let d = pending_declared r s late (place_of c.in-Some.note) swept.is.legal first in
      let named = c.in_ok-deliver.ensures.names r (world r late) (deliveries r late) ring swept.is.is d.0 d.1 in
      turned_more g.H.Hash160.naming r s events c.loop-count.count (place_of c.in-Some.note) c.args.book.now.held c.loop-count.book.held c.deliver.new.book.held first named.0 named.1 named.2
      (c.loop-count.invariant.more r events ring h);
}

pub returns-in_err-deliver-clause-fault : goal.returns-in_err-deliver-clause-fault
returns-in_err-deliver-clause-fault g c =
    let p = err_from_is_err_and c.from_residual.result c.from_residual.ensures.1 in
    rw (p.1, p.2)
    (λ r events ring h.
    let s = is_skipped (skips c.args.self.now) in
    let late = settled r s events c.loop-count.count ++ events in
    let swept = c.loop-count.invariant.swept r events ring h in
    let first = next_first (world r late).sent (deliveries r late) (skips c.loop-count.self) (skips c.args.self.now) c.in-Some.note c.loop-count.invariant.same (c.in-Some.ensures _ _ swept.is.is.mail_is) in
    let d = pending_declared r s late (place_of c.in-Some.note) swept.is.legal first in
    let failed = c.in_err-deliver.ensures.names r (world r late) (deliveries r late) ring swept.is.is d.0 d.1 in
    turned_failed g.H.Hash160.naming r s events c.loop-count.count (place_of c.in-Some.note) c.args.book.now.held c.loop-count.book.held c.deliver.new.book.held c.in_err-deliver.field-0.0 first
    (room_for g.N.Node.stands r s events c.loop-count.self c.loop-count.count (place_of c.in-Some.note) first swept) failed.0 failed.1 (c.loop-count.invariant.more r events ring h))

-- the last count
whole : (n : ℕ) → n ≤ 4294967295 → 4294967295 ≤ n → n ≡ 4294967295
whole n low high = omega (arith, low, high)

pub returns-clause-ok : goal.returns-clause-ok
returns-clause-ok g c = λ r events ring h.
    let s = is_skipped (skips c.args.self.now) in
    let swept = c.loop-count.invariant.swept r events ring h in
    subst (Settles g.N.Node.stands r s events c.loop-count.self) (whole c.loop-count.count c.loop-count.auto.count-end c.loop-count-test.false)
    (swept_all g.N.Node.stands r s events c.loop-count.self c.loop-count.count (swept_most g.N.Node.stands r s events c.loop-count.self c.loop-count.count c.loop-count-test.false swept) swept)

pub returns-clause-more : goal.returns-clause-more
returns-clause-more g c = λ r events ring h.
    subst (λ n. HoldsMore g.H.Hash160.naming r events (settled r (is_skipped (skips c.args.self.now)) events n) c.args.book.now.held c.loop-count.book.held) (whole c.loop-count.count c.loop-count.auto.count-end c.loop-count-test.false)
    (c.loop-count.invariant.more r events ring h)

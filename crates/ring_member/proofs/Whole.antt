-- What is kept stays within its bounds.
use Rattle.std.proofs.Common.{◌≡◌, ℕ, ◌+◌, ◌<◌, Bool, true, false, cond, ◌==◌, List, [], ◌∷◌, length, Option, Some, None, is_some, refl, sym, ap, ◌∙◌, subst, arith, length-append}
use Rattle.std.proofs.lemmas.Bool.{eqb-true}
use Rattle.quorum.specs.declared.phase.Phase.{Phase}
use Rattle.quorum.specs.Windows.{Votes}
use Rattle.ring_message.specs.Grammar.{IsSlot}
use Rattle.ring_member.specs.declared.progress.Progress.{Progress}
use Rattle.ring_member.specs.Views.{view_of, proposal, Casts, Proposes, Hears, Executes, IsWhole}

-- a slot that is kept is the one at hand, or was kept before
kept_slot : {X : Type 0} (s t : ℕ) (x : X) (old new : Option X) → new ≡ cond (s == t) (Some x) old → IsSlot t → (is_some old ≡ true → IsSlot s) → is_some new ≡ true → IsSlot s
kept_slot {X} s t x old new e slot before h = by (s == t) refl (sym (ap is_some e) ∙ h)
  where
    by : (b : Bool) → (s == t) ≡ b → is_some (cond b (Some x) old) ≡ true → IsSlot s
    by true same k = subst IsSlot (sym (eqb-true s t same)) slot
    by false apart k = before k

pub whole_cast : (p q : Progress) (ph : Phase) (t k : ℕ) (d : List ℕ) → IsWhole p → Casts (view_of p) ph t k d (view_of q) → q.f ≡ p.f → IsSlot t → IsWhole q
whole_cast p q ph t k d is does same slot = record {
  few = omega (arith, same, is.few);
  within = omega (arith, ap length does.done_is, is.within);
  floor = omega (arith, does.floor_is, ap length does.done_is, is.floor);
  numbered = λ s. kept_slot s t (proposal (view_of p) s) ((view_of p).slot s) ((view_of q).slot s) (does.slots s) slot (is.numbered s);
}

pub whole_propose : (p q : Progress) (t : ℕ) (r : List ℕ) → IsWhole p → Proposes (view_of p) t r (view_of q) → q.f ≡ p.f → IsSlot t → IsWhole q
whole_propose p q t r is does same slot = record {
  few = omega (arith, same, is.few);
  within = omega (arith, ap length does.done_is, is.within);
  floor = omega (arith, ap (λ (v : Votes). v.floor) does.votes_are, ap length does.done_is, is.floor);
  numbered = λ s. kept_slot s t _ ((view_of p).slot s) ((view_of q).slot s) (does.slots s) slot (is.numbered s);
}

pub whole_hear : (p q : Progress) (r n : List ℕ) → IsWhole p → Hears (view_of p) r n (view_of q) → q.f ≡ p.f → IsWhole q
whole_hear p q r n is does same = record {
  few = omega (arith, same, is.few);
  within = omega (arith, ap length does.done_is, is.within);
  floor = omega (arith, ap (λ (v : Votes). v.floor) does.votes_are, ap length does.done_is, is.floor);
  numbered = λ s h. is.numbered s (sym (ap is_some (does.slots s)) ∙ h);
}

none_kept : {X : Type 0} (b : Bool) (o : Option X) → is_some (cond b None o) ≡ true → is_some o ≡ true
none_kept true o e = absurd (cc e)
none_kept false o e = e

pub whole_execute : (p q : Progress) (r : List ℕ) → IsWhole p → Executes (view_of p) r (view_of q) → q.f ≡ p.f → length p.done < 65536 → IsWhole q
whole_execute p q r is does same low =
    let long : length q.done ≡ length p.done + 1 = omega (arith, ap length does.done_is, length-append p.done (r ∷ [])) in
    record {
      few = omega (arith, same, is.few);
      within = omega (arith, long, low);
      floor = omega (arith, does.floor_is, long);
      numbered = λ s h. is.numbered s (none_kept (s == length p.done + 1) ((view_of p).slot s) (sym (ap is_some (does.slots s)) ∙ h));
    }

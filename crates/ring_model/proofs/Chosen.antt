-- Correct members' executed lists are prefixes of the longest of them, which grows.
use Rattle.std.proofs.Common.{◌≡◌, ℕ, zero, suc, ◌+◌, ◌*◌, ◌<◌, ◌≤◌, Bool, true, false, cond, not, ◌&&◌, nat_le, nat_lt, List, [], ◌∷◌, ◌++◌, length, map, slice_get, filter, count_by, Contains, Option, Some, None, ◌⊎◌, inl, inr, ⊎_elim, refl, sym, ap, ◌∙◌, subst, arith}
use Rattle.std.specs.List.{range_with_len, AllByRecursion as Each}
use Rattle.std.proofs.lemmas.Bool.{leb-true, not-true, not_from_false, cases_eq}
use Rattle.std.proofs.lemmas.List.Sums.{sum_by-cons}
use Rattle.std.proofs.lemmas.Slice.Eq.{bytes_eq-Decides}
use Rattle.ring_model.specs.Messages.{Ring, Packet, Commit, Mark, Party, Member, members, same_party, FewFaulty}
use Rattle.ring_model.specs.History.{first_word, is_name, voters}
use Rattle.ring_model.specs.Member.{prepares, commits, endorsed, prepared, committed, executed}
use Rattle.ring_model.specs.World.{World, Event, Submit, Resubmit, Deliver, Forge, Archive, between, came, turned, happens, world, correct, longest, chosen}
use Rattle.ring_model.specs.Laws.{IsPrefix, NoClash, IsSound, IsCorrect, Agrees, Grows, HeldByMany, ChosenIsHeld, is_held}
use Rattle.ring_model.proofs.History.{passing_parts, is_name_true, prefix_self, prefix_trans, run_agrees, Each-weaker}
use Rattle.ring_model.proofs.Stays.{executed_grows}
use Rattle.ring_model.proofs.Owed.{all_owed}
use Rattle.ring_model.proofs.Agreement.{longest_long, prefix_whole, one_request, word_right, commits_is, endorsed_submitted, committed_parts}
use Rattle.ring_model.proofs.Lists.{run_at}

-- ---- the correct members

Each-filtered : {X : Type 0} (P : X → Type 0) (t : X → Bool) (xs : List X) → Each P xs → Each (λ x. P x × (t x ≡ true)) (filter t xs)
Each-filtered {X} P t [] h = tt
Each-filtered {X} P t (x ∷ xs) h =
    elim (t x) as (λ b. t x ≡ b → Each (λ x. P x × (t x ≡ true)) (cond b (x ∷ filter t xs) (filter t xs))) [
      | true ↦ λ e. ((h.0, e), Each-filtered P t xs h.1)
      | false ↦ λ _. Each-filtered P t xs h.1
    ] refl

pub below : (a m n : ℕ) → a + m ≤ n → Each (λ k. k < n) (range_with_len a m)
below a zero n h = tt
below a (suc m) n h = (omega arith, below (a + 1) m n (omega arith))

pub all_correct : (g : Ring) → Each (IsCorrect g) (correct g)
all_correct g =
    Each-weaker (λ k. (k < 3 * g.f + 1) × (not (g.is_faulty k) ≡ true)) (IsCorrect g) (λ k h. (h.0, not-true (g.is_faulty k) h.1)) (correct g)
    (Each-filtered (λ k. k < 3 * g.f + 1) (λ k. not (g.is_faulty k)) (members g) (below 0 (3 * g.f + 1) (3 * g.f + 1) (omega arith)))

pub at_correct : {Y : Type 0} (P : Y → Type 0) (F : ℕ → Y) (t : ℕ → Bool) (n a i : ℕ) → Each P (map F (filter t (range_with_len a n))) → a ≤ i → i < a + n → t i ≡ true → P (F i)
at_correct P F t zero a i h low high e = absurd (omega arith)
at_correct {Y} P F t (suc n) a i h low high e =
    ⊎_elim
    (λ same. subst (λ k. P (F k)) same (first (t a) (ap t same ∙ e) h))
    (λ other. at_correct P F t n (a + 1) i (rest (t a) h) (omega arith) (omega arith) e)
    (cases_eq a i)
  where
    first : (b : Bool) → b ≡ true → Each P (map F (cond b (a ∷ filter t (range_with_len (a + 1) n)) (filter t (range_with_len (a + 1) n)))) → P (F a)
    first true _ k = k.0
    first false e _ = absurd (cc e)

    rest : (b : Bool) → Each P (map F (cond b (a ∷ filter t (range_with_len (a + 1) n)) (filter t (range_with_len (a + 1) n)))) → Each P (map F (filter t (range_with_len (a + 1) n)))
    rest true k = k.1
    rest false k = k

-- the longest of some lists is one of them, or empty
pub longest_of : {Y : Type 0} (P : ℕ → Type 0) (F : ℕ → List Y) (ks : List ℕ) → Each P ks → (longest (map F ks) ≡ []) ⊎ ((k : ℕ) × P k × (longest (map F ks) ≡ F k))
longest_of P F [] h = inl refl
longest_of {Y} P F (k ∷ ks) h = pick (nat_lt (length (F k)) (length (longest (map F ks)))) (longest_of P F ks h.1)
  where
    pick : (b : Bool) → (longest (map F ks) ≡ []) ⊎ ((j : ℕ) × P j × (longest (map F ks) ≡ F j)) → (cond b (longest (map F ks)) (F k) ≡ []) ⊎ ((j : ℕ) × P j × (cond b (longest (map F ks)) (F k) ≡ F j))
    pick false _ = inr (k, h.0, refl)
    pick true (inl e) = inl e
    pick true (inr r) = inr r

-- ---- agreement

abbrev ran : Ring → World → ℕ → List (List ℕ)
ran g w i = executed g (w.got (Member i))

pub in_chosen : (g : Ring) → FewFaulty g → (w : World) → IsSound g w → NoClash g w.submits → (i : ℕ) → IsCorrect g i → IsPrefix (ran g w i) (chosen g w)
in_chosen g few w sound clear i ok = pick (longest_of (IsCorrect g) (ran g w) (correct g) (all_correct g))
  where
    short : length (ran g w i) ≤ length (chosen g w)
    short = at_correct (λ xs. length xs ≤ length (chosen g w)) (ran g w) (λ k. not (g.is_faulty k)) (3 * g.f + 1) 0 i (longest_long (map (ran g w) (correct g))) (omega arith) (omega (arith, ok.0)) (not_from_false (g.is_faulty i) ok.1)

    along : (k : ℕ) → chosen g w ≡ ran g w k → IsPrefix (ran g w i) (ran g w k) ⊎ IsPrefix (ran g w k) (ran g w i) → IsPrefix (ran g w i) (chosen g w)
    along k e (inl h) = subst (IsPrefix (ran g w i)) (sym e) h
    along k e (inr h) = subst (IsPrefix (ran g w i)) (sym e) (prefix_whole (ran g w k) (ran g w i) h (omega (arith, ap length e, short)))

    pick : (chosen g w ≡ []) ⊎ ((k : ℕ) × IsCorrect g k × (chosen g w ≡ ran g w k)) → IsPrefix (ran g w i) (chosen g w)
    pick (inl e) = prefix_whole (chosen g w) (ran g w i) (subst (λ xs. IsPrefix xs (ran g w i)) (sym e) (ran g w i, refl)) short
    pick (inr r) =
        along r.0 r.2 (run_agrees (committed g (w.got (Member i))) (committed g (w.got (Member r.0)))
        (λ s a b ea eb. one_request g few w sound clear (Member i) (Member r.0) s a b ea eb) g.slots 1)

pub agrees : Agrees
agrees g few events legal clear i low ok = in_chosen g few (world g events) (all_owed g events legal) clear i (low, ok)

-- ---- growth

came_grows : (g : Ring) (w : World) (o : Option Packet) (p : Party) → IsPrefix (executed g (w.got p)) (executed g ((came g w o).got p))
came_grows g w None p = prefix_self (executed g (w.got p))
came_grows g w (Some x) p =
    elim (same_party x.to p) as (λ b. IsPrefix (executed g (w.got p)) (executed g (cond b (record { from = x.from; message = x.message } ∷ w.got p) (w.got p)))) [
      | true ↦ executed_grows g (record { from = x.from; message = x.message }) (w.got p)
      | false ↦ prefix_self (executed g (w.got p))
    ]

turned_grows : (g : Ring) (w : World) (i : ℕ) (o : Option Mark) (p : Party) → IsPrefix (executed g (w.got p)) (executed g ((turned g w i o).got p))
turned_grows g w i None p = prefix_self (executed g (w.got p))
turned_grows g w i (Some m) p = prefix_self (executed g (w.got p))

happens_grows : (g : Ring) (w : World) (e : Event) (p : Party) → IsPrefix (executed g (w.got p)) (executed g ((happens g w e).got p))
happens_grows g w (Submit r) p = prefix_self (executed g (w.got p))
happens_grows g w (Resubmit c n) p = prefix_self (executed g (w.got p))
happens_grows g w (Deliver a q k) p = came_grows g w (slice_get (between a q w.sent) k) p
happens_grows g w (Forge i q m) p = prefix_self (executed g (w.got p))
happens_grows g w (Archive i) p = turned_grows g w i (slice_get (g.seals (executed g (w.got (Member i)))) (w.archived i)) p

pub world_grows : (g : Ring) (late events : List Event) (p : Party) → IsPrefix (executed g ((world g events).got p)) (executed g ((world g (late ++ events)).got p))
world_grows g [] events p = prefix_self (executed g ((world g events).got p))
world_grows g (e ∷ late) events p =
    prefix_trans (executed g ((world g events).got p)) (executed g ((world g (late ++ events)).got p)) (executed g ((happens g (world g (late ++ events)) e).got p))
    (world_grows g late events p) (happens_grows g (world g (late ++ events)) e p)

pub grows : Grows
grows g few late events legal clear = pick (longest_of (IsCorrect g) (ran g (world g events)) (correct g) (all_correct g))
  where
    later : World
    later = world g (late ++ events)

    pick : (chosen g (world g events) ≡ []) ⊎ ((k : ℕ) × IsCorrect g k × (chosen g (world g events) ≡ ran g (world g events) k)) → IsPrefix (chosen g (world g events)) (chosen g (world g (late ++ events)))
    pick (inl e) = subst (λ xs. IsPrefix xs (chosen g (world g (late ++ events)))) (sym e) (chosen g (world g (late ++ events)), refl)
    pick (inr r) =
        subst (λ xs. IsPrefix xs (chosen g (world g (late ++ events)))) (sym r.2)
        (prefix_trans (ran g (world g events) r.0) (ran g (world g (late ++ events)) r.0) (chosen g (world g (late ++ events)))
        (world_grows g late events (Member r.0)) (agrees g few (late ++ events) legal clear r.0 r.1.0 r.1.1))

-- ---- how many hold it

either : (a b c : Bool) → (a ≡ true → (b ≡ true) ⊎ (c ≡ true)) → cond a 1 0 ≤ cond b 1 0 + cond c 1 0
either false b c f = omega arith
either true true c f = omega arith
either true false true f = omega arith
either true false false f = ⊎_elim (λ e. absurd (cc e)) (λ e. absurd (cc e)) (f refl)

counted_or : {X : Type 0} (p q r : X → Bool) (xs : List X) → ((x : X) → p x ≡ true → (q x ≡ true) ⊎ (r x ≡ true)) → count_by p xs ≤ count_by q xs + count_by r xs
counted_or p q r [] f = omega arith
counted_or p q r (x ∷ xs) f =
    omega (arith, sum_by-cons (λ i. cond (p i) 1 0) x xs, sum_by-cons (λ i. cond (q i) 1 0) x xs, sum_by-cons (λ i. cond (r i) 1 0) x xs, counted_or p q r xs f, either (p x) (q x) (r x) (f x))

pub held : (g : Ring) → FewFaulty g → (w : World) → IsSound g w → NoClash g w.submits → (j : Party) (s : ℕ) (r : List ℕ)
    → committed g (w.got j) s ≡ Some r → g.f + 1 ≤ count_by (is_held g w s r) (members g)
held g few w sound clear j s r e =
    let votes = passing_parts (λ t. nat_le (2 * g.f + 1) (voters g (commits s) (g.h t) (w.got j))) (prepared g (w.got j) s) r e in
    omega (
      arith,
      few,
      leb-true (2 * g.f + 1) (voters g (commits s) (g.h r) (w.got j)) votes.1,
      counted_or (λ i. is_name (g.h r) (first_word (Member i) (commits s) (w.got j))) g.is_faulty (is_held g w s r) (members g) each,
    )
  where
    mine : Contains w.submits r
    mine = endorsed_submitted g w sound j s r (committed_parts g (w.got j) s r e).1

    each : (i : ℕ) → is_name (g.h r) (first_word (Member i) (commits s) (w.got j)) ≡ true → (g.is_faulty i ≡ true) ⊎ (is_held g w s r i ≡ true)
    each i v =
        elim (g.is_faulty i) as (λ b. g.is_faulty i ≡ b → (b ≡ true) ⊎ ((not b && is_name r (prepared g (w.got (Member i)) s)) ≡ true)) [
          | true ↦ λ _. inl refl
          | false ↦ λ ok.
              let o = word_right g w sound (Member i) j (commits s) (g.h r) (Commit s (g.h r)) (λ x. commits_is s x (g.h r)) (is_name_true (g.h r) (first_word (Member i) (commits s) (w.got j)) v) ok in
              let theirs = endorsed_submitted g w sound (Member i) s o.0 (passing_parts (λ t. nat_le (2 * g.f + 1) (voters g (prepares s) (g.h t) (w.got (Member i)))) (endorsed g (w.got (Member i)) s) o.0 o.1).0 in
              inr (ap (is_name r) o.1 ∙ (bytes_eq-Decides o.0 r).1 (clear o.0 r theirs mine o.2))
        ] refl

pub held_always : HeldByMany
held_always g few events legal clear j s r e = held g few (world g events) (all_owed g events legal) clear j s r e

pub chosen_is_held : ChosenIsHeld
chosen_is_held g few events legal clear k r e = pick (longest_of (IsCorrect g) (ran g (world g events)) (correct g) (all_correct g))
  where
    pick : (chosen g (world g events) ≡ []) ⊎ ((j : ℕ) × IsCorrect g j × (chosen g (world g events) ≡ ran g (world g events) j)) → g.f + 1 ≤ count_by (is_held g (world g events) (1 + k) r) (members g)
    pick (inl none) = absurd (cc (ap (λ xs. slice_get xs k) (sym none) ∙ e))
    pick (inr j) = held_always g few events legal clear (Member j.0) (1 + k) r (run_at (committed g ((world g events).got (Member j.0))) g.slots 1 k r (ap (λ xs. slice_get xs k) (sym j.2) ∙ e))

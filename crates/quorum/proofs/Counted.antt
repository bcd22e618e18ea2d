-- The slots that are kept, counted among all that are above the floor.
use Rattle.std.proofs.Common.{◌≡◌, ℕ, zero, suc, ◌+◌, ◌-◌, ◌^◌, ◌<◌, ◌≤◌, Bool, true, false, cond, ◌==◌, List, [], ◌∷◌, length, Some, is_some, refl, sym, ap, subst, ◌∙◌, arith}
use Rattle.std.specs.Ordering.{nat_cmp, is_eq}
use Rattle.std.specs.declared.cmp.Ordering.TheVariants.{Less}
use Rattle.std.specs.List.{AllByRecursion, count_by, range_with_len}
use Rattle.std.specs.List.Sorted.{IsStrictlySortedBy}
use Rattle.std.specs.Map.{keys_of}
use Rattle.std.specs.FinMap.{from_entries}
use Rattle.std.proofs.lemmas.Bool.Decides.{nat_tests}
use Rattle.std.proofs.lemmas.List.Sums.{sum_by-cons, count_by-le-length}
use Rattle.std.proofs.lemmas.List.FromFn.{length-range_with_len}
use Rattle.quorum.specs.declared.slot.Slot.{Slot}
use Rattle.quorum.specs.Slots.{kept_at, IsKept}
use Rattle.quorum.specs.Windows.{Votes, has_vote, slots_above, kept_of}
use Rattle.quorum.proofs.Keeping.{has_vote_is}

abbrev is_kept : List (ℕ × Slot) → ℕ → Bool
is_kept es s = is_some (kept_at es s)

tie : (s k : ℕ) → is_eq (nat_cmp s k) ≡ (s == k)
tie s k = grind (arith, nat_tests)

is_kept-cons : (e : ℕ × Slot) (es : List (ℕ × Slot)) (s : ℕ) → is_kept (e ∷ es) s ≡ cond (s == e.0) true (is_kept es s)
is_kept-cons e es s = each (is_eq (nat_cmp s e.0)) ∙ ap (λ b. cond b true (is_kept es s)) (tie s e.0)
  where
    each : (b : Bool) → is_some (cond b (Some e.1) (kept_at es s)) ≡ cond b true (is_kept es s)
    each true = refl
    each false = refl

less : (k y : ℕ) → nat_cmp k y ≡ Less → k < y
less k y e = grind (arith, nat_tests, e)

-- what is kept behind a key in order is above it
above_head : (k : ℕ) (es : List (ℕ × Slot)) → AllByRecursion (λ y. nat_cmp k y ≡ Less) (keys_of es) → (s : ℕ) → is_kept es s ≡ true → k < s
above_head k [] all s e = absurd (cc e)
above_head k (x ∷ es) all s e = each (s == x.0) refl (sym (is_kept-cons x es s) ∙ e) (above_head k es all.1 s)
  where
    each : (b : Bool) → (s == x.0) ≡ b → cond b true (is_kept es s) ≡ true → (is_kept es s ≡ true → k < s) → k < s
    each true p t behind = let same : s ≡ x.0 = grind (arith, nat_tests, p) in subst (λ n. k < n) (sym same) (less k x.0 all.0)
    each false p t behind = behind t

count_same : (p q : ℕ → Bool) (a n : ℕ) → ((s : ℕ) → a ≤ s → p s ≡ q s) → count_by p (range_with_len a n) ≡ count_by q (range_with_len a n)
count_same p q a zero h = refl
count_same p q a (suc n) h =
    sum_by-cons (λ s. cond (p s) 1 0) a (range_with_len (a + 1) n)
    ∙ ap (λ b. cond b 1 0 + count_by p (range_with_len (a + 1) n)) (h a (omega arith))
    ∙ ap (λ m. cond (q a) 1 0 + m) (count_same p q (a + 1) n (λ s low. h s (omega arith)))
    ∙ sym (sum_by-cons (λ s. cond (q s) 1 0) a (range_with_len (a + 1) n))

-- as many are kept as a range has that holds all of them
count_kept : (n a : ℕ) (es : List (ℕ × Slot)) → IsStrictlySortedBy nat_cmp (keys_of es) → ((s : ℕ) → is_kept es s ≡ true → (a ≤ s) × (s < a + n)) → count_by (is_kept es) (range_with_len a n) ≡ length es
unfolding IsStrictlySortedBy
count_kept zero a [] sorted within = refl
count_kept zero a (e ∷ es) sorted within = let there = within e.0 (is_kept-cons e es e.0 ∙ grind (arith, nat_tests)) in absurd (omega (arith, there.0, there.1))
count_kept (suc n) a [] sorted within =
    sum_by-cons (λ s. cond (is_kept [] s) 1 0) a (range_with_len (a + 1) n)
    ∙ ap (λ m. 0 + m) (count_kept n (a + 1) [] sorted (λ s e. absurd (cc e)))
count_kept (suc n) a (e ∷ es) sorted within =
    sum_by-cons (λ s. cond (is_kept (e ∷ es) s) 1 0) a (range_with_len (a + 1) n)
    ∙ each (a == e.0) refl (count_kept n (a + 1) es sorted.1) (count_kept n (a + 1) (e ∷ es) sorted)
  where
    head : a ≤ e.0
    head = (within e.0 (is_kept-cons e es e.0 ∙ grind (arith, nat_tests))).0

    more : (s : ℕ) → is_kept es s ≡ true → is_kept (e ∷ es) s ≡ true
    more s k = is_kept-cons e es s ∙ ap (cond (s == e.0) true) k ∙ either (s == e.0)
      where
        either : (b : Bool) → cond b true true ≡ true
        either true = refl
        either false = refl

    behind : (s : ℕ) → is_kept es s ≡ true → e.0 < s
    behind = above_head e.0 es sorted.0

    none : (a == e.0) ≡ false → (b : Bool) → is_kept es a ≡ b → is_kept (e ∷ es) a ≡ false
    none t true k = absurd (omega (arith, behind a k, head))
    none t false k = is_kept-cons e es a ∙ ap (λ b. cond b true (is_kept es a)) t ∙ k

    each : (b : Bool) → (a == e.0) ≡ b
        → (((s : ℕ) → is_kept es s ≡ true → (a + 1 ≤ s) × (s < a + 1 + n)) → count_by (is_kept es) (range_with_len (a + 1) n) ≡ length es)
        → (((s : ℕ) → is_kept (e ∷ es) s ≡ true → (a + 1 ≤ s) × (s < a + 1 + n)) → count_by (is_kept (e ∷ es)) (range_with_len (a + 1) n) ≡ length (e ∷ es))
        → cond (is_kept (e ∷ es) a) 1 0 + count_by (is_kept (e ∷ es)) (range_with_len (a + 1) n) ≡ length (e ∷ es)
    each true t rest whole =
        let same : a ≡ e.0 = grind (arith, nat_tests, t) in
        let here : is_kept (e ∷ es) a ≡ true = is_kept-cons e es a ∙ ap (λ b. cond b true (is_kept es a)) t in
        let others : count_by (is_kept (e ∷ es)) (range_with_len (a + 1) n) ≡ count_by (is_kept es) (range_with_len (a + 1) n)
        = count_same (is_kept (e ∷ es)) (is_kept es) (a + 1) n (λ s low. is_kept-cons e es s ∙ (let apart : (s == e.0) ≡ false = grind (arith, nat_tests, same, low) in ap (λ b. cond b true (is_kept es s)) apart)) in
        let all : count_by (is_kept es) (range_with_len (a + 1) n) ≡ length es = rest (λ s k. let above = behind s k in let below = (within s (more s k)).1 in (omega arith, omega arith)) in
        ap (λ b. cond b 1 0 + count_by (is_kept (e ∷ es)) (range_with_len (a + 1) n)) here ∙ ap (λ m. 1 + m) (others ∙ all) ∙ omega arith
    each false t rest whole =
        let gone : is_kept (e ∷ es) a ≡ false = none t (is_kept es a) refl in
        ap (λ b. cond b 1 0 + count_by (is_kept (e ∷ es)) (range_with_len (a + 1) n)) gone
        ∙ ap (λ m. 0 + m) (whole (λ s k. let bounds = within s k in (above s k (s == a) refl bounds.0, omega (arith, bounds.1)))) ∙ omega arith
      where
        above : (s : ℕ) → is_kept (e ∷ es) s ≡ true → (b : Bool) → (s == a) ≡ b → a ≤ s → a + 1 ≤ s
        above s k true u low = let same : s ≡ a = grind (arith, nat_tests, u) in absurd (cc (sym k ∙ ap (is_kept (e ∷ es)) same ∙ none t (is_kept es a) refl))
        above s k false u low = grind (arith, nat_tests, u, low)

-- how many slots above its floor have a vote in a window of which these are kept
pub kept_is : (v : Votes) (es : List (ℕ × Slot)) → from_entries es ≡ v.slots → IsKept v.floor es → IsStrictlySortedBy nat_cmp (keys_of es) → length es ≡ kept_of v
unfolding slots_above
kept_is v es same is sorted =
    sym (count_kept (2 ^ 32 - 1 - v.floor) (v.floor + 1) es sorted (λ s e. let high = is.above s e in let low = is.within s e in (omega arith, omega arith)))
    ∙ ap (λ (p : ℕ → Bool). count_by p (range_with_len (v.floor + 1) (2 ^ 32 - 1 - v.floor))) (λ i s. (is.voted s ∙ sym (has_vote_is v es same s)) i)

-- it fits 32 bits
pub kept_fits : (v : Votes) → kept_of v < 2 ^ 32
unfolding slots_above
kept_fits v = omega (arith, count_by-le-length (has_vote v) (range_with_len (v.floor + 1) (2 ^ 32 - 1 - v.floor)), length-range_with_len (v.floor + 1) (2 ^ 32 - 1 - v.floor))

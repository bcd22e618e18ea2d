-- How many places pass a test, and that two quorums have one in common.
use Rattle.std.proofs.Common.{◌≡◌, ℕ, zero, suc, ◌+◌, ◌*◌, ◌≤◌, Bool, true, false, cond, List, [], ◌∷◌, count_by, None, refl, sym, ap, ◌∙◌, subst, arith}
use Rattle.std.specs.List.{range_with_len}
use Rattle.std.proofs.lemmas.Bool.{false≢true}
use Rattle.std.proofs.lemmas.List.Sums.{sum_by-cons, sum_by-le-sum_by}
use Rattle.ring_model.specs.Messages.{Ring, members}
use Rattle.ring_model.proofs.Counting.{quorums_share}

implied : (a b : Bool) → (a ≡ true → b ≡ true) → cond a 1 0 ≤ cond b 1 0
implied true true h = omega arith
implied true false h = absurd (false≢true (h refl))
implied false b h = omega arith

-- a test that passes wherever another does passes as often
pub count_by-le-count_by : (p q : ℕ → Bool) → ((i : ℕ) → p i ≡ true → q i ≡ true) → (xs : List ℕ) → count_by p xs ≤ count_by q xs
count_by-le-count_by p q h xs = sum_by-le-sum_by (λ i. cond (p i) 1 0) (λ i. cond (q i) 1 0) xs (λ i. implied (p i) (q i) (h i))

none_counted : (xs : List ℕ) → count_by (λ _. false) xs ≡ 0
none_counted [] = refl
none_counted (x ∷ xs) = omega (arith, sum_by-cons (λ _. 0) x xs, none_counted xs)

-- a count over a range that begins elsewhere
pub count_by-range_with_len : (p : ℕ → Bool) (n a b : ℕ) → count_by p (range_with_len (a + b) n) ≡ count_by (λ i. p (a + i)) (range_with_len b n)
count_by-range_with_len p zero a b = refl
count_by-range_with_len p (suc n) a b =
    let turned : a + b + 1 ≡ a + (b + 1) = omega arith in
    let rest = ap (λ k. count_by p (range_with_len k n)) turned ∙ count_by-range_with_len p n a (b + 1) in
    omega (arith, sum_by-cons (λ i. cond (p i) 1 0) (a + b) (range_with_len (a + b + 1) n), sum_by-cons (λ i. cond (p (a + i)) 1 0) b (range_with_len (b + 1) n), rest)

-- a ring of 3f+1 members, none of them faulty
ring : ℕ → Ring
ring f = record {
  f = f;
  clients = 0;
  slots = 0;
  is_faulty = λ _. false;
  h = λ text. text;
  owner = λ _. 0;
  number = λ _. 0;
  outcome = λ _. [];
  heart = λ _. None;
  namings = λ _. [];
  seals = λ _. [];
  turns = λ _. [];
  seals_stay = λ xs ys. ([], refl);
}

-- of 3f+1 places side by side, two tests that each pass at 2f+1 pass together at one
pub two_quorums : (f a : ℕ) (p q : ℕ → Bool) → 2 * f + 1 ≤ count_by p (range_with_len a (3 * f + 1)) → 2 * f + 1 ≤ count_by q (range_with_len a (3 * f + 1))
    → (i : ℕ) × (p i ≡ true) × (q i ≡ true)
unfolding ring
two_quorums f a p q ps qs =
    let from : a + 0 ≡ a = omega arith in
    let shift = λ (t : ℕ → Bool). ap (λ k. count_by t (range_with_len k (3 * f + 1))) (sym from) ∙ count_by-range_with_len t (3 * f + 1) a 0 in
    let few : count_by (λ _. false) (members (ring f)) ≤ f = omega (arith, none_counted (members (ring f))) in
    let r = quorums_share (ring f) (λ i. p (a + i)) (λ i. q (a + i)) few (subst (λ n. 2 * f + 1 ≤ n) (shift p) ps) (subst (λ n. 2 * f + 1 ≤ n) (shift q) qs) in
    (a + r.0, r.2, r.3)

-- The faulty members of a setup: few are, so some member is correct.
use Rattle.std.proofs.Common.{◌≡◌, ℕ, zero, suc, ◌+◌, ◌<◌, ◌≤◌, Bool, true, false, not, cond, ◌||◌, ◌==◌, List, [], ◌∷◌, length, count_by, get_or, Option, None, is_some, IsTrue, refl, ap, ◌∙◌, arith, eqb-true}
use Rattle.std.specs.List.{list_any, range_with_len}
use Rattle.std.proofs.lemmas.List.FromFn.{length-range_with_len}
use Rattle.std.proofs.lemmas.List.Sums.{sum_by-cons}
use Rattle.pond_base.specs.declared.numbers.MemberId.{MemberId}
use Rattle.pond_world.specs.Setups.{is_among}

-- one more is counted where it passes
count_cons : (p : ℕ → Bool) (x : ℕ) (xs : List ℕ) → count_by p (x ∷ xs) ≡ cond (p x) 1 0 + count_by p xs
count_cons p x xs = sum_by-cons (λ i. cond (p i) 1 0) x xs

-- what passes one test or another is counted by the one or by the other
count_either : (p q : ℕ → Bool) (xs : List ℕ) → count_by (λ i. p i || q i) xs ≤ count_by p xs + count_by q xs
count_either p q [] = omega arith
count_either p q (x ∷ xs) =
    let rest = count_either p q xs in
    let here : cond (p x || q x) 1 0 ≤ cond (p x) 1 0 + cond (q x) 1 0 = elim (p x) as (λ b. cond (b || q x) 1 0 ≤ cond b 1 0 + cond (q x) 1 0) [
      | true ↦ omega arith
      | false ↦ omega arith
    ] in
    omega (arith, rest, here, count_cons (λ i. p i || q i) x xs, count_cons p x xs, count_cons q x xs)

-- a number stands in no range above it
count_above : (m a n : ℕ) → m < a → count_by (λ i. m == i) (range_with_len a n) ≡ 0
count_above m a zero low = refl
count_above m a (suc n) low =
    let rest = count_above m (a + 1) n (omega arith) in
    let here : cond {A = ℕ} (m == a) 1 0 ≡ 0 = elim (m == a) as (λ b. (m == a) ≡ b → cond {A = ℕ} b 1 0 ≡ 0) [
      | true ↦ λ t. let same : m ≡ a = eqb-true m a t in absurd (omega arith)
      | false ↦ λ t. refl
    ] refl in
    omega (arith, rest, here, count_cons (λ i. m == i) a (range_with_len (a + 1) n))

-- and at most once in any range
count_once : (m a n : ℕ) → count_by (λ i. m == i) (range_with_len a n) ≤ 1
count_once m a zero = omega arith
count_once m a (suc n) =
    let here : cond (m == a) 1 0 + count_by (λ i. m == i) (range_with_len (a + 1) n) ≤ 1 =
    elim (m == a) as (λ b. (m == a) ≡ b → cond b 1 0 + count_by (λ i. m == i) (range_with_len (a + 1) n) ≤ 1) [
      | true ↦ λ t. let same : m ≡ a = eqb-true m a t in omega (arith, count_above m (a + 1) n (omega arith))
      | false ↦ λ t. omega (arith, count_once m (a + 1) n)
    ] refl in
    omega (arith, here, count_cons (λ i. m == i) a (range_with_len (a + 1) n))

count_none : (xs : List ℕ) → count_by (λ i. false) xs ≡ 0
count_none [] = refl
count_none (x ∷ xs) = omega (arith, count_cons (λ i. false) x xs, count_none xs)

-- no more members are in a list than it has items
pub few_among : (members : List MemberId) (n : ℕ) → count_by (is_among members) (range_with_len 0 n) ≤ length members
few_among [] n = omega (arith, count_none (range_with_len 0 n))
few_among (m ∷ ms) n = omega (arith, count_either (λ i. m.0 == i) (is_among ms) (range_with_len 0 n), count_once m.0 0 n, few_among ms n)

-- where a test passes fewer than all, it fails at one
some_fails : (p : ℕ → Bool) (xs : List ℕ) → count_by p xs < length xs → IsTrue (list_any (λ i. not (p i)) xs)
some_fails p [] low = absurd (omega arith)
some_fails p (x ∷ xs) low =
    let all = count_cons p x xs in
    elim (p x) as (λ b. cond b 1 0 + count_by p xs < suc (length xs) → IsTrue (not b || list_any (λ i. not (p i)) xs)) [
      | true ↦ λ less. some_fails p xs (omega arith)
      | false ↦ λ less. refl
    ] (omega (arith, all, low))

-- some is there where one is at a place
any_at : {X : Type 0} (nodes : List (Option X)) (i : ℕ) (d : Option X) → i < length nodes → is_some (get_or nodes i d) ≡ true → IsTrue (list_any is_some nodes)
any_at [] i d low e = absurd (omega arith)
any_at (x ∷ xs) zero d low e = rw (e) refl
any_at (x ∷ xs) (suc i) d low e = later (is_some x) (any_at xs i d (omega arith) e)
  where
    later : (b : Bool) → IsTrue (list_any is_some xs) → IsTrue (b || list_any is_some xs)
    later true t = refl
    later false t = t

-- a member of a range at which a test fails
fails_at : (p : ℕ → Bool) (a n : ℕ) → IsTrue (list_any (λ i. not (p i)) (range_with_len a n)) → (i : ℕ) × (a ≤ i) × (i < a + n) × (not (p i) ≡ true)
fails_at p a zero any = absurd (cc any)
fails_at p a (suc n) any =
    elim (p a) as (λ b. p a ≡ b → IsTrue (not b || list_any (λ i. not (p i)) (range_with_len (a + 1) n)) → (i : ℕ) × (a ≤ i) × (i < a + suc n) × (not (p i) ≡ true)) [
      | true ↦ λ t rest. let found = fails_at p (a + 1) n rest in (found.0, omega (arith, found.1), omega (arith, found.2), found.3)
      | false ↦ λ t rest. (a, omega arith, omega arith, ap not t)
    ] refl any

-- so where fewer members are faulty than there are, one has a node
pub one_is_there : {X : Type 0} (faulty : List MemberId) (nodes : List (Option X)) (n : ℕ) → length nodes ≡ n → length faulty < n
    → ((i : ℕ) (d : Option X) → i < length nodes → is_some (get_or nodes i d) ≡ not (is_among faulty i)) → IsTrue (list_any is_some nodes)
one_is_there faulty nodes n size few there =
    let fewer : count_by (is_among faulty) (range_with_len 0 n) < length (range_with_len 0 n) = omega (arith, few, few_among faulty n, length-range_with_len 0 n) in
    let found = fails_at (is_among faulty) 0 n (some_fails (is_among faulty) (range_with_len 0 n) fewer) in
    let low : found.0 < length nodes = omega (arith, found.2, size) in
    any_at nodes found.0 None low (there found.0 None low ∙ found.3)

-- How many members pass several tests at once.
use Rattle.std.proofs.Common.{◌≡◌, ℕ, suc, ◌+◌, ◌*◌, ◌<◌, ◌≤◌, Bool, true, false, cond, not, ◌&&◌, List, [], ◌∷◌, length, count_by, Contains, refl, ap, arith}
use Rattle.std.specs.List.{range_with_len}
use Rattle.std.proofs.lemmas.List.Sums.{sum_by-cons}
use Rattle.std.proofs.lemmas.List.FromFn.{length-range_with_len, get_or-range_with_len}
use Rattle.std.proofs.lemmas.Bool.{and_parts, not-true}
use Rattle.ring_model.specs.Messages.{members}
use Rattle.ring_model.specs.Laws.{QuorumsMeet}

point : (a b c : Bool) → cond a 1 0 + cond b 1 0 ≤ 1 + cond c 1 0 + cond (a && b && not c) 1 0
point true true true = omega arith
point true true false = omega arith
point true false true = omega arith
point true false false = omega arith
point false true true = omega arith
point false true false = omega arith
point false false true = omega arith
point false false false = omega arith

-- two tests pass together at more places than are bad, if they pass often enough
pub counted : (p q bad : ℕ → Bool) (xs : List ℕ) → count_by p xs + count_by q xs ≤ length xs + count_by bad xs + count_by (λ i. p i && q i && not (bad i)) xs
counted p q bad [] = omega arith
counted p q bad (x ∷ xs) =
    omega (arith, sum_by-cons (λ i. cond (p i) 1 0) x xs, sum_by-cons (λ i. cond (q i) 1 0) x xs, sum_by-cons (λ i. cond (bad i) 1 0) x xs, sum_by-cons (λ i. cond (p i && q i && not (bad i)) 1 0) x xs, counted p q bad xs, point (p x) (q x) (bad x))

pub Contains-later : {X : Type 0} (y : X) (xs : List X) (x : X) → Contains xs x → Contains (y ∷ xs) x
Contains-later y xs x c = (suc c.0, omega arith, c.2)

-- a test that is counted passes somewhere
pub one_passes : {X : Type 0} (t : X → Bool) (xs : List X) → 0 < count_by t xs → (x : X) × Contains xs x × (t x ≡ true)
one_passes t [] h = absurd (omega arith)
one_passes {X} t (x ∷ xs) h =
    elim (t x) as (λ b. t x ≡ b → (y : X) × Contains (x ∷ xs) y × (t y ≡ true)) [
      | true ↦ λ e. (x, (0, omega arith, refl), e)
      | false ↦ λ e.
          let more : 0 < count_by t xs = omega (arith, sum_by-cons (λ y. cond (t y) 1 0) x xs, ap {B = ℕ} (λ b. cond b 1 0) e) in
          let r = one_passes t xs more in
          (r.0, Contains-later x xs r.0 r.1, r.2)
    ] refl

-- what is in a range
pub in_range : (n i : ℕ) → Contains (range_with_len 0 n) i → i < n
in_range n i c =
    omega (arith, length-range_with_len 0 n, c.1, c.2, get_or-range_with_len 0 n c.0 i (omega (arith, length-range_with_len 0 n, c.1)))

pub quorums_share : QuorumsMeet
quorums_share g p q few ps qs =
    let all = length-range_with_len 0 (3 * g.f + 1) in
    let r = one_passes (λ i. p i && q i && not (g.is_faulty i)) (members g) (omega (arith, counted p q g.is_faulty (members g), all, few, ps, qs)) in
    let both = and_parts (p r.0 && q r.0) (not (g.is_faulty r.0)) r.2 in
    let pq = and_parts (p r.0) (q r.0) both.0 in
    (r.0, in_range (3 * g.f + 1) r.0 r.1, pq.0, pq.1, not-true (g.is_faulty r.0) both.1)

-- The powers of 2, which are all bytes but 0.
use Rattle.std.proofs.Common.{◌≡◌, ℕ, zero, suc, ◌+◌, ◌-◌, ◌<◌, ◌≤◌, ◌≢◌, Bool, true, false, cond, ◌&&◌, eqb, ltb, List, get_or, refl, sym, ap, ◌∙◌, arith}
use Rattle.std.proofs.lemmas.Bool.{eqb-true, ltb-true}
use Rattle.gf256.specs.Field.{long_product, remainder, product, inverse_below, inverse, power}
use Rattle.gf256.proofs.Computed.{all_below, all_at, both_of}
use Rattle.gf256.proofs.Laws.{product_byte, product_assoc, product_comm, product_one_l, product_one_r, product_inverse}

pub power_byte : (n : ℕ) → power n < 256
unfolding power
power_byte zero = omega arith
power_byte (suc n) = product_byte 2 (power n)

pub power_add : (i j : ℕ) → power (i + j) ≡ product (power i) (power j)
unfolding power
power_add zero j = let e : 0 + j ≡ j = omega arith in ap power e ∙ sym (product_one_l (power j) (power_byte j))
power_add (suc i) j =
    let e : suc i + j ≡ suc (i + j) = omega arith in
    ap power e ∙ ap (product 2) (power_add i j) ∙ sym (product_assoc 2 (power i) (power j))

-- ---- the tables, by tests that are computed
unfoldable pub doubles : List ℕ → Bool
doubles table = all_below 509 (λ k. eqb (get_or table (suc k) 0) (product 2 (get_or table k 0)))

pub from_powers : (table : List ℕ) → get_or table 0 0 ≡ 1 → doubles table ≡ true → (k : ℕ) → k < 510 → get_or table k 0 ≡ power k
unfolding power doubles
from_powers table one h zero lt = one
from_powers table one h (suc k) lt =
    eqb-true _ _ (all_at 509 (λ k. eqb (get_or table (suc k) 0) (product 2 (get_or table k 0))) h k (omega arith))
    ∙ ap (product 2) (from_powers table one h k (omega arith))

unfoldable pub finds : List ℕ → List ℕ → Bool
finds powers exponents = all_below 255 (λ n. ltb (get_or exponents (suc n) 0) 255 && eqb (get_or powers (get_or exponents (suc n) 0) 0) (suc n))

pub from_exponents : (powers exponents : List ℕ) → finds powers exponents ≡ true → (a : ℕ) → a ≢ 0 → a < 256
    → (get_or exponents a 0 < 255) × (get_or powers (get_or exponents a 0) 0 ≡ a)
unfolding finds
from_exponents powers exponents h zero ne lt = absurd (ne refl)
from_exponents powers exponents h (suc n) ne lt =
    let at = all_at 255 (λ n. ltb (get_or exponents (suc n) 0) 255 && eqb (get_or powers (get_or exponents (suc n) 0) 0) (suc n)) h n (omega arith) in
    let both = both_of _ _ at in
    (ltb-true _ _ both.0, eqb-true _ _ both.1)

-- ---- the inverse
pub inverse_only : (a b : ℕ) → a ≢ 0 → a < 256 → b < 256 → inverse a < 256 → product a b ≡ 1 → b ≡ inverse a
inverse_only a b ne lt hb hi e =
    sym (product_one_r b hb)
    ∙ ap (product b) (sym (product_inverse a (omega arith) lt))
    ∙ sym (product_assoc b a (inverse a))
    ∙ ap (λ x. product x (inverse a)) (product_comm b a ∙ e)
    ∙ product_one_l (inverse a) hi

full_test : power 255 ≡ 1
unfolding power product long_product remainder
full_test = refl

below_bound : (n a : ℕ) → n ≤ 256 → inverse_below n a < 256
unfolding inverse_below
below_bound zero a h = omega arith
below_bound (suc n) a h =
    elim (eqb (product a n) 1) as (λ v. cond v n (inverse_below n a) < 256) [ true ↦ omega arith | false ↦ below_bound n a (omega arith) ]

pub inverse_byte : (a : ℕ) → inverse a < 256
unfolding inverse
inverse_byte a = below_bound 256 a (omega arith)

-- the inverse of the i-th power, where i is at most 255
pub power_inverse : (a i : ℕ) → a ≢ 0 → a < 256 → i ≤ 255 → power i ≡ a → power (255 - i) ≡ inverse a
power_inverse a i ne lt le e =
    inverse_only a (power (255 - i)) ne lt (power_byte (255 - i)) (inverse_byte a)
    (ap (λ x. product x (power (255 - i))) (sym e) ∙ sym (power_add i (255 - i)) ∙ ap power (let s : i + (255 - i) ≡ 255 = omega arith in s) ∙ full_test)

-- the i-th power by the j-th
pub power_quotient : (a b i j : ℕ) → b ≢ 0 → b < 256 → j ≤ 255 → power i ≡ a → power j ≡ b → power (i + 255 - j) ≡ product a (inverse b)
power_quotient a b i j ne lt le ea eb =
    ap power (let s : i + 255 - j ≡ i + (255 - j) = omega arith in s) ∙ power_add i (255 - j) ∙ (λ k. product (ea k) (power_inverse b j ne lt le eb k))

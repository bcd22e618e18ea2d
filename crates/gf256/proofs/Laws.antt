-- The laws of the field. A product reads its factors modulo 256, so they hold of all numbers.
use Rattle.std.proofs.Common.{◌≡◌, ℕ, zero, suc, ◌%◌, ◌^◌, ◌<◌, Bool, true, eqb, refl, sym, ap, ◌∙◌, arith, bit_xor}
use Rattle.std.proofs.lemmas.Nat.{xor_mod}
use Rattle.std.proofs.lemmas.Bool.{eqb-true}
use Rattle.gf256.specs.Field.{long_product, remainder, product, inverse_below, inverse}
use Rattle.gf256.proofs.Computed.{all_below, all_at}
use Rattle.gf256.proofs.Linear.{Linear, product_linear_l, product_linear_r, same_linear, linear_zero}

-- two bilinear functions that agree at the powers below 256
bilinear_test : (ℕ → ℕ → ℕ) → (ℕ → ℕ → ℕ) → Bool
bilinear_test f g = all_below 8 (λ i. all_below 8 (λ j. eqb (f (2 ^ i) (2 ^ j)) (g (2 ^ i) (2 ^ j))))

same_bilinear : (f g : ℕ → ℕ → ℕ) → ((b : ℕ) → Linear (λ a. f a b)) → ((b : ℕ) → Linear (λ a. g a b)) → ((a : ℕ) → Linear (f a)) → ((a : ℕ) → Linear (g a))
    → bilinear_test f g ≡ true → (a b : ℕ) → a < 256 → b < 256 → f a b ≡ g a b
unfolding bilinear_test
same_bilinear f g fl gl fr gr h a b ha hb =
    same_linear (λ x. f x b) (λ x. g x b) (fl b) (gl b) 8
    (λ i hi. same_linear (f (2 ^ i)) (g (2 ^ i)) (fr (2 ^ i)) (gr (2 ^ i)) 8
    (λ j hj. eqb-true _ _ (all_at 8 (λ j. eqb (f (2 ^ i) (2 ^ j)) (g (2 ^ i) (2 ^ j))) (all_at 8 (λ i. all_below 8 (λ j. eqb (f (2 ^ i) (2 ^ j)) (g (2 ^ i) (2 ^ j)))) h i hi) j hj)) b hb) a ha

mod_twice : (a : ℕ) → a % 256 % 256 ≡ a % 256
mod_twice a = omega arith

-- a product reads its factors modulo 256
pub product_mod : (a b : ℕ) → product a b ≡ product (a % 256) (b % 256)
unfolding product
product_mod a b = λ i. remainder 7 (long_product 8 (sym (mod_twice a) i) (sym (mod_twice b) i))

product_comm_bytes : (a b : ℕ) → a < 256 → b < 256 → product a b ≡ product b a
unfolding bilinear_test product long_product remainder
product_comm_bytes = same_bilinear product (λ a b. product b a) product_linear_l product_linear_r product_linear_r product_linear_l refl

pub product_comm : (a b : ℕ) → product a b ≡ product b a
product_comm a b = product_mod a b ∙ product_comm_bytes (a % 256) (b % 256) (omega arith) (omega arith) ∙ sym (product_mod b a)

pub product_sum_l : (a b c : ℕ) → product (bit_xor a b) c ≡ bit_xor (product a c) (product b c)
product_sum_l a b c = product_linear_l c a b

pub product_sum_r : (a b c : ℕ) → product a (bit_xor b c) ≡ bit_xor (product a b) (product a c)
product_sum_r a b c = product_linear_r a b c

pub product_zero_l : (b : ℕ) → product 0 b ≡ 0
product_zero_l b = linear_zero (λ a. product a b) (product_linear_l b)

pub product_zero_r : (a : ℕ) → product a 0 ≡ 0
product_zero_r a = linear_zero (product a) (product_linear_r a)

-- ---- a product is a byte
product_byte_low : (a b : ℕ) → a < 256 → b < 256 → product a b ≡ product a b % 256
unfolding bilinear_test product long_product remainder
product_byte_low = same_bilinear product (λ a b. product a b % 256) product_linear_l
    (λ b x y. ap (λ x. x % 256) (product_linear_l b x y) ∙ xor_mod (product x b) (product y b) 8) product_linear_r
    (λ a x y. ap (λ x. x % 256) (product_linear_r a x y) ∙ xor_mod (product a x) (product a y) 8) refl

pub product_byte : (a b : ℕ) → product a b < 256
product_byte a b =
    let e = product_mod a b in
    let h = product_byte_low (a % 256) (b % 256) (omega arith) (omega arith) in
    omega (arith, e, h)

-- ---- associativity
triple_test : Bool
triple_test = all_below 8 (λ i. all_below 8 (λ j. all_below 8 (λ k. eqb (product (product (2 ^ i) (2 ^ j)) (2 ^ k)) (product (2 ^ i) (product (2 ^ j) (2 ^ k))))))

triple_holds : triple_test ≡ true
unfolding triple_test product long_product remainder
triple_holds = refl

triple_at : (i j k : ℕ) → i < 8 → j < 8 → k < 8 → product (product (2 ^ i) (2 ^ j)) (2 ^ k) ≡ product (2 ^ i) (product (2 ^ j) (2 ^ k))
unfolding triple_test
triple_at i j k hi hj hk =
    let x = all_at 8 (λ i. all_below 8 (λ j. all_below 8 (λ k. eqb (product (product (2 ^ i) (2 ^ j)) (2 ^ k)) (product (2 ^ i) (product (2 ^ j) (2 ^ k)))))) triple_holds i hi in
    let y = all_at 8 (λ j. all_below 8 (λ k. eqb (product (product (2 ^ i) (2 ^ j)) (2 ^ k)) (product (2 ^ i) (product (2 ^ j) (2 ^ k))))) x j hj in
    eqb-true _ _ (all_at 8 (λ k. eqb (product (product (2 ^ i) (2 ^ j)) (2 ^ k)) (product (2 ^ i) (product (2 ^ j) (2 ^ k)))) y k hk)

product_assoc_bytes : (a b c : ℕ) → a < 256 → b < 256 → c < 256 → product (product a b) c ≡ product a (product b c)
product_assoc_bytes a b c ha hb hc =
    same_linear (λ x. product (product x b) c) (λ x. product x (product b c))
    (λ x y. ap (λ z. product z c) (product_linear_l b x y) ∙ product_linear_l c (product x b) (product y b)) (product_linear_l (product b c)) 8
    (λ i hi. same_linear (λ x. product (product (2 ^ i) x) c) (λ x. product (2 ^ i) (product x c))
    (λ x y. ap (λ z. product z c) (product_linear_r (2 ^ i) x y) ∙ product_linear_l c (product (2 ^ i) x) (product (2 ^ i) y))
    (λ x y. ap (product (2 ^ i)) (product_linear_l c x y) ∙ product_linear_r (2 ^ i) (product x c) (product y c)) 8
    (λ j hj. same_linear (product (product (2 ^ i) (2 ^ j))) (λ x. product (2 ^ i) (product (2 ^ j) x))
    (product_linear_r (product (2 ^ i) (2 ^ j)))
    (λ x y. ap (product (2 ^ i)) (product_linear_r (2 ^ j) x y) ∙ product_linear_r (2 ^ i) (product (2 ^ j) x) (product (2 ^ j) y)) 8
    (λ k hk. triple_at i j k hi hj hk) c hc) b hb) a ha

product_mod_l : (a b : ℕ) → product (a % 256) b ≡ product a b
product_mod_l a b = product_mod (a % 256) b ∙ ap (λ x. product x (b % 256)) (mod_twice a) ∙ sym (product_mod a b)

product_mod_r : (a b : ℕ) → product a (b % 256) ≡ product a b
product_mod_r a b = product_mod a (b % 256) ∙ ap (product (a % 256)) (mod_twice b) ∙ sym (product_mod a b)

pub product_assoc : (a b c : ℕ) → product (product a b) c ≡ product a (product b c)
product_assoc a b c =
    ap (λ x. product x c) (product_mod a b) ∙ sym (product_mod_r (product (a % 256) (b % 256)) c)
    ∙ product_assoc_bytes (a % 256) (b % 256) (c % 256) (omega arith) (omega arith) (omega arith)
    ∙ ap (product (a % 256)) (sym (product_mod b c)) ∙ product_mod_l a (product b c)

-- ---- one
one_test : Bool
one_test = all_below 8 (λ i. eqb (product 1 (2 ^ i)) (2 ^ i))

one_holds : one_test ≡ true
unfolding one_test product long_product remainder
one_holds = refl

pub product_one_l : (b : ℕ) → b < 256 → product 1 b ≡ b
unfolding one_test
product_one_l b h = same_linear (product 1) (λ x. x) (product_linear_r 1) (λ x y. refl) 8 (λ i hi. eqb-true _ _ (all_at 8 (λ i. eqb (product 1 (2 ^ i)) (2 ^ i)) one_holds i hi)) b h

pub product_one_r : (b : ℕ) → b < 256 → product b 1 ≡ b
product_one_r b h = product_comm b 1 ∙ product_one_l b h

-- ---- the inverse
inverse_test : Bool
inverse_test = all_below 255 (λ n. eqb (product (suc n) (inverse (suc n))) 1)

inverse_holds : inverse_test ≡ true
unfolding inverse_test inverse inverse_below product long_product remainder
inverse_holds = refl

pub product_inverse : (a : ℕ) → 0 < a → a < 256 → product a (inverse a) ≡ 1
unfolding inverse_test
product_inverse zero h lt = absurd (omega arith)
product_inverse (suc n) h lt = eqb-true _ _ (all_at 255 (λ n. eqb (product (suc n) (inverse (suc n))) 1) inverse_holds n (omega arith))

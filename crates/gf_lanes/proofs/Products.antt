-- Products by the bits of a byte.
use Rattle.std.proofs.Common.{◌≡◌, ℕ, zero, suc, ◌+◌, ◌-◌, ◌*◌, ◌/◌, ◌%◌, ◌^◌, ◌<◌, Bool, true, cond, eqb, ltb, List, get_or, refl, sym, ap, ◌∙◌, arith, bit_and, bit_xor}
use Rattle.std.specs.Int.{bit_at}
use Rattle.std.specs.Int.Bits.{xor_shifted}
use Rattle.std.proofs.lemmas.Nat.{xor_comm, and_mask}
use Rattle.std.proofs.lemmas.Bool.{eqb-true}
use Rattle.gf256.specs.Field.{long_product, remainder, product}
use Rattle.gf256.proofs.Computed.{all_below, all_at}
use Rattle.gf256.proofs.Laws.{product_sum_r, product_zero_r, product_assoc}

-- a product with a byte is the sum of those with its low and its high four bits
pub by_bits : (c v : ℕ) → bit_xor (product c (v % 16)) (product c (16 * (v / 16))) ≡ product c v
by_bits c v =
    let high : 16 * (v / 16) ≡ v / 16 * 2 ^ 4 = omega arith in
    let whole : v / 16 * 2 ^ 4 + v % 16 ≡ v = omega arith in
    sym (product_sum_r c (v % 16) (16 * (v / 16)))
    ∙ ap (product c) (xor_comm (v % 16) (16 * (v / 16)) ∙ ap (λ x. bit_xor x (v % 16)) high ∙ xor_shifted (v / 16) 4 (v % 16) (omega arith) ∙ whole)

-- ---- twice a byte
double_test : Bool
double_test = all_below 256 (λ a. eqb (cond (ltb a 128) (2 * a) (bit_xor (2 * (a - 128)) 0x1d)) (product a 2))

double_holds : double_test ≡ true
unfolding double_test product long_product remainder
double_holds = refl

pub double_is : (a : ℕ) → a < 256 → cond (ltb a 128) (2 * a) (bit_xor (2 * (a - 128)) 0x1d) ≡ product a 2
unfolding double_test
double_is a h = eqb-true _ _ (all_at 256 (λ a. eqb (cond (ltb a 128) (2 * a) (bit_xor (2 * (a - 128)) 0x1d)) (product a 2)) double_holds a h)

-- twice a product
pub twice_times : (c x p q : ℕ) → p ≡ product c x → product x 2 ≡ q → product p 2 ≡ product c q
twice_times c x p q is e = ap (λ y. product y 2) is ∙ product_assoc c x 2 ∙ ap (product c) e

-- ---- sums by the bits of a lane's number
-- each byte below 16 times 16, by shifting
sixteen_test : Bool
sixteen_test = all_below 16 (λ k. eqb (product 16 k) (16 * k))

sixteen_holds : sixteen_test ≡ true
unfolding sixteen_test product long_product remainder
sixteen_holds = refl

pub times_sixteen_is : (c k : ℕ) → k < 16 → product (product c 16) k ≡ product c (16 * k)
unfolding sixteen_test
times_sixteen_is c k h = product_assoc c 16 k ∙ ap (product c) (eqb-true _ _ (all_at 16 (λ k. eqb (product 16 k) (16 * k)) sixteen_holds k h))

-- a mask's lanes
abbrev pub mask_test : List ℕ → ℕ → Bool
mask_test mask b = all_below 32 (λ k. eqb (get_or mask k 0) (255 * bit_at k b))

masked_by : (a s m : ℕ) → a < 256 → s < 2 → m ≡ 255 * s → bit_and a m ≡ s * a
masked_by a zero m ha hs e = ap (bit_and a) (e ∙ (let z : 255 * 0 ≡ 0 = refl in z)) ∙ and_mask a 0 ∙ omega arith
masked_by a (suc zero) m ha hs e = ap (bit_and a) e ∙ and_mask a 8 ∙ omega arith
masked_by a (suc (suc s)) m ha hs e = absurd (omega arith)

scaled : (c x s : ℕ) → s < 2 → s * product c x ≡ product c (s * x)
scaled c x zero h = let a : 0 * product c x ≡ 0 = omega arith in let b : 0 * x ≡ 0 = omega arith in rw (a, b) (sym (product_zero_r c))
scaled c x (suc zero) h = let a : 1 * product c x ≡ product c x = omega arith in let b : 1 * x ≡ x = omega arith in rw (a, b) refl
scaled c x (suc (suc s)) h = absurd (omega arith)

bit_below : (k b : ℕ) → bit_at k b < 2
bit_below k b = omega arith

-- one lane of a masked product
pub lane_is : (mask : List ℕ) (b c x a k : ℕ) → mask_test mask b ≡ true → a < 256 → a ≡ product c x → k < 32 → bit_and a (get_or mask k 0) ≡ product c (bit_at k b * x)
lane_is mask b c x a k test ha is h =
    masked_by a (bit_at k b) (get_or mask k 0) ha (bit_below k b) (eqb-true _ _ (all_at 32 (λ k. eqb (get_or mask k 0) (255 * bit_at k b)) test k h))
    ∙ ap (λ y. bit_at k b * y) is ∙ scaled c x (bit_at k b) (bit_below k b)

number_test : Bool
number_test = all_below 32 (λ k. eqb (bit_xor (bit_xor (bit_at k 0 * 1) (bit_at k 1 * 2)) (bit_xor (bit_at k 2 * 4) (bit_at k 3 * 8))) (k % 16))

number_holds : number_test ≡ true
unfolding number_test
number_holds = refl

pub lanes_sum : (c k : ℕ) → k < 32
    → bit_xor (bit_xor (product c (bit_at k 0 * 1)) (product c (bit_at k 1 * 2))) (bit_xor (product c (bit_at k 2 * 4)) (product c (bit_at k 3 * 8))) ≡ product c (k % 16)
unfolding number_test
lanes_sum c k h =
    (λ i. bit_xor (sym (product_sum_r c (bit_at k 0 * 1) (bit_at k 1 * 2)) i) (sym (product_sum_r c (bit_at k 2 * 4) (bit_at k 3 * 8)) i))
    ∙ sym (product_sum_r c (bit_xor (bit_at k 0 * 1) (bit_at k 1 * 2)) (bit_xor (bit_at k 2 * 4) (bit_at k 3 * 8)))
    ∙ ap (product c) (eqb-true _ _ (all_at 32 (λ k. eqb (bit_xor (bit_xor (bit_at k 0 * 1) (bit_at k 1 * 2)) (bit_xor (bit_at k 2 * 4) (bit_at k 3 * 8))) (k % 16)) number_holds k h))

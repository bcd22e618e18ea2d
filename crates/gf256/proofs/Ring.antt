-- Equations of the field by sorting products and sums: `simp (products, sums)` brings two equal sums of products to one form.
use Rattle.std.proofs.Common.{◌≡◌, ℕ, ◌<◌, ◌≢◌, sym, ap, ◌∙◌, arith, bit_xor}
use Rattle.std.specs.Int.Bits.{xor_assoc, xor_self, xor_zero_r}
use Rattle.std.proofs.lemmas.Nat.{xor_comm, xor_lt}
use Rattle.gf256.specs.Field.{product, inverse}
use Rattle.gf256.proofs.Laws.{product_assoc, product_comm, product_one_l, product_inverse, product_sum_l, product_sum_r}

pub product_left_comm : (a b c : ℕ) → product a (product b c) ≡ product b (product a c)
product_left_comm a b c = sym (product_assoc a b c) ∙ ap (λ x. product x c) (product_comm a b) ∙ product_assoc b a c

pub xor_left_comm : (a b c : ℕ) → bit_xor a (bit_xor b c) ≡ bit_xor b (bit_xor a c)
xor_left_comm a b c = sym (xor_assoc a b c) ∙ ap (λ x. bit_xor x c) (xor_comm a b) ∙ xor_assoc b a c

pub xor_self_left : (a b : ℕ) → bit_xor a (bit_xor a b) ≡ b
xor_self_left a b = sym (xor_assoc a a b) ∙ ap (λ x. bit_xor x b) (xor_self a)

pub ruleset products = (product_assoc, product_comm, product_left_comm)

pub ruleset sums = (product_sum_l, product_sum_r, xor_assoc, xor_comm, xor_left_comm, xor_self, xor_self_left)

pub xor_byte : (a b : ℕ) → a < 256 → b < 256 → bit_xor a b < 256
xor_byte a b ha hb = xor_lt 8 a b ha hb

pub xor_differ : (a b : ℕ) → a ≢ b → bit_xor a b ≢ 0
xor_differ a b ne e = ne (sym (xor_zero_r a) ∙ ap (bit_xor a) (sym (xor_self b)) ∙ sym (xor_assoc a b b) ∙ ap (λ x. bit_xor x b) e)

-- two different bytes have a sum with an inverse
pub unit : (a b : ℕ) → a < 256 → b < 256 → a ≢ b → product (bit_xor a b) (inverse (bit_xor a b)) ≡ 1
unit a b ha hb ne =
    let n = xor_differ a b ne in
    product_inverse (bit_xor a b) (omega arith) (xor_byte a b ha hb)

-- a product with u and with its inverse is unchanged
pub unit_cancel : (u v x : ℕ) → product u v ≡ 1 → x < 256 → product u (product v x) ≡ x
unit_cancel u v x e h = sym (product_assoc u v x) ∙ ap (λ z. product z x) e ∙ product_one_l x h

-- The identity of the elimination.
use Rattle.std.proofs.Common.{◌≡◌, ℕ, sym, ap, ◌∙◌, bit_xor}
use Rattle.gf256.specs.Field.{product}
use Rattle.gf256.proofs.Laws.{product_byte, product_sum_l}
use Rattle.gf256.proofs.Ring.{products, sums, unit_cancel}

-- (c + h) a + (a + h) c = h (a + c)
pub cross : (a c h : ℕ) → bit_xor (product (bit_xor c h) a) (product (bit_xor a h) c) ≡ product h (bit_xor a c)
cross a c h = simp (products, sums)

-- a / ((a + h) (a + c)) + c / ((c + h) (a + c)) = h / ((c + h) (a + h)), with ib, id and ig for the inverses of c + h, a + h and a + c
pub cauchy_step : (a c h ib id ig : ℕ) → product (bit_xor c h) ib ≡ 1 → product (bit_xor a h) id ≡ 1 → product (bit_xor a c) ig ≡ 1
    → bit_xor (product id (product a ig)) (product ib (product c ig)) ≡ product h (product ib id)
cauchy_step a c h ib id ig eb ed eg =
    let k = product ib (product id ig) in
    let left : product id (product a ig) ≡ product (product (bit_xor c h) a) k = sym (unit_cancel (bit_xor c h) ib (product id (product a ig)) eb (product_byte _ _)) ∙ simp products in
    let right : product ib (product c ig) ≡ product (product (bit_xor a h) c) k = sym (unit_cancel (bit_xor a h) id (product ib (product c ig)) ed (product_byte _ _)) ∙ simp products in
    let sum : product (product h (bit_xor a c)) k ≡ product (bit_xor a c) (product ig (product h (product ib id))) = simp products in
    (λ i. bit_xor (left i) (right i)) ∙ sym (product_sum_l _ _ k) ∙ ap (λ z. product z k) (cross a c h) ∙ sum ∙ unit_cancel (bit_xor a c) ig _ eg (product_byte _ _)

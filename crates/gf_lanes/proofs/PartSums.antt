-- Sums of parts, as a loop makes them.
use Rattle.std.proofs.Common.{◌≡◌, ℕ, suc, ◌+◌, ◌*◌, List, get_or, refl, ap, ◌∙◌, arith, bit_xor}
use Rattle.gf256.specs.Field.{product}
use Rattle.gf_lanes.specs.Lanes.{HasLanes}
use Rattle.gf_lanes.specs.Sums.{sum_to}

pub sum_to_more : (cs : List ℕ) (v : ℕ → ℕ) (k s t : ℕ) → t ≡ sum_to cs v k → s ≡ bit_xor t (product (get_or cs k 0) (v k)) → s ≡ sum_to cs v (k + 1)
unfolding sum_to
sum_to_more cs v k s t before e =
    e ∙ ap (λ x. bit_xor x (product (get_or cs k 0) (v k))) before ∙ ap (sum_to cs v) (let n : suc k ≡ k + 1 = omega arith in n)

pub sum_to_none : (cs : List ℕ) (v : ℕ → ℕ) → 0 ≡ sum_to cs v 0
unfolding sum_to
sum_to_none cs v = refl

-- the lanes hold the sums of the first k parts
pub lanes_none : (cs parts now : List ℕ) (p at : ℕ) → HasLanes now (λ _. 0) → HasLanes now (λ q. sum_to cs (λ i. get_or parts (i * p + (at + q)) 0) 0)
lanes_none cs parts now p at h = record { long = h.long; each = λ q l. h.each q l ∙ sum_to_none cs (λ i. get_or parts (i * p + (at + q)) 0) }

pub lanes_more : (cs parts now old prods bytes : List ℕ) (p at k c : ℕ) → c ≡ get_or cs k 0
    → HasLanes old (λ q. sum_to cs (λ i. get_or parts (i * p + (at + q)) 0) k)
    → HasLanes bytes (λ q. get_or parts (k * p + at + q) 0)
    → HasLanes prods (λ q. product c (get_or bytes q 0))
    → HasLanes now (λ q. bit_xor (get_or old q 0) (get_or prods q 0))
    → HasLanes now (λ q. sum_to cs (λ i. get_or parts (i * p + (at + q)) 0) (k + 1))
lanes_more cs parts now old prods bytes p at k c is before loaded times added = record {
  long = added.long;
  each = λ q l.
      let place : k * p + at + q ≡ k * p + (at + q) = omega arith in
      sum_to_more cs (λ i. get_or parts (i * p + (at + q)) 0) k (get_or now q 0) (get_or old q 0) (before.each q l)
      (added.each q l ∙ ap (bit_xor (get_or old q 0)) (times.each q l ∙ (λ i. product (is i) (loaded.each q l i)) ∙ ap (λ j. product (get_or cs k 0) (get_or parts j 0)) place));
}

use Rattle.std.proofs.Common.{◌≡◌, ℕ, ◌%◌, ◌+◌, ◌<◌, get_or, refl, sym, ap, ◌∙◌, arith, bit_xor}
use Rattle.gf256.specs.Field.{long_product, remainder, product}
use Rattle.gf256.proofs.Laws.{product_one_r}
use Rattle.gf_lanes.specs.declared.lanes.TheConstants.{BIT_0, BIT_1, BIT_2, BIT_3}
use Rattle.gf_lanes.proofs.Products.{twice_times, lane_is, lanes_sum}
use Rattle.gf_lanes.proofs.lanes.products.Goals as goal

pub returns : goal.returns
unfolding product long_product remainder
returns c =
    let one : c.args.c ≡ product c.args.c 1 = sym (product_one_r c.args.c (omega arith)) in
    let two = c.double-two.ensures in
    let four = c.double-four.ensures ∙ twice_times c.args.c 2 c.double-two.result 4 two refl in
    let eight = c.double-eight.ensures ∙ twice_times c.args.c 4 c.double-four.result 8 four refl in
    let lane : (k : ℕ) → k < 32 → get_or c.sum.result k 0 ≡ product c.args.c (k % 16) = λ k l.
    c.sum.ensures.each k l
    ∙ (λ i. bit_xor (c.sum-low.ensures.each k l i) (c.sum-high.ensures.each k l i))
    ∙ (λ i. bit_xor (bit_xor (c.masked.ensures.each k l i) (c.masked-2.ensures.each k l i)) (bit_xor (c.masked-3.ensures.each k l i) (c.masked-4.ensures.each k l i)))
    ∙ (λ i. bit_xor
    (bit_xor (lane_is BIT_0 0 c.args.c 1 c.args.c k refl (omega arith) one l i) (lane_is BIT_1 1 c.args.c 2 c.double-two.result k refl (omega arith) two l i))
    (bit_xor (lane_is BIT_2 2 c.args.c 4 c.double-four.result k refl (omega arith) four l i) (lane_is BIT_3 3 c.args.c 8 c.double-eight.result k refl (omega arith) eight l i)))
    ∙ lanes_sum c.args.c k l in
    record {
      each = λ k l. lane k (omega arith) ∙ ap (product c.args.c) (let e : k % 16 ≡ k = omega arith in e);
      again = record {
        long = c.sum.ensures.long;
        each = λ k l. lane (16 + k) (omega arith) ∙ ap (product c.args.c) (let e : (16 + k) % 16 ≡ k % 16 = omega arith in e) ∙ sym (lane k (omega arith));
      };
    }

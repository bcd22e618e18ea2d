use Rattle.std.proofs.Common.{◌≡◌, ℕ, ◌+◌, ◌-◌, ◌*◌, ◌/◌, ◌%◌, ◌<◌, ◌≤◌, List, length, get_or, ap, sym, ◌∙◌, subst, arith, inl, inr, bit_xor}
use Rattle.std.specs.Int.Bits.{xor_zero_r}
use Rattle.std.proofs.lemmas.Bool.{cases_lt}
use Rattle.gf256.specs.Field.{product}
use Rattle.gf256.proofs.Laws.{product_zero_l, product_one_l}
use Rattle.gf_lanes.proofs.Products.{by_bits, times_sixteen_is}
use Rattle.gf_lanes.proofs.add_row.Invariants.{State}
use Rattle.gf_lanes.proofs.add_row.Goals as goal

pub returns-then-c-eq0 : goal.returns-then-c-eq0
returns-then-c-eq0 c = λ j l.
    sym (xor_zero_r (get_or c.args.acc.now j 0)) ∙ ap (bit_xor (get_or c.args.acc.now j 0)) (sym (ap (λ x. product x (get_or c.args.row.now j 0)) c.if-c-eq0.true ∙ product_zero_l (get_or c.args.row.now j 0)))

pub returns-then-c-eq1 : goal.returns-then-c-eq1
returns-then-c-eq1 c = λ j l.
    c.add_copy.ensures j l
    ∙ ap (bit_xor (get_or c.args.acc.now j 0)) (sym (ap (λ x. product x (get_or c.args.row.now j 0)) c.if-c-eq1.true ∙ product_one_l (get_or c.args.row.now j 0) (c.type_inv.row j).fits))

-- a block more is summed
step : (now before old row low high : List ℕ) (c d b : ℕ) → length now ≡ length before → State before old row c (32 * b)
    → ((k : ℕ) → get_or row k 0 < 256) → d ≡ product c 16
    → ((k : ℕ) → k < 16 → get_or low k 0 ≡ product c k) → ((k : ℕ) → k < 16 → get_or high k 0 ≡ product d k)
    → ((k : ℕ) → k < 32 → get_or now (32 * b + k) 0 ≡ bit_xor (get_or before (32 * b + k) 0) (bit_xor (get_or low (get_or row (32 * b + k) 0 % 16) 0) (get_or high (get_or row (32 * b + k) 0 / 16) 0)))
    → ((k : ℕ) → k < 32 * b → get_or now k 0 ≡ get_or before k 0) → ((k : ℕ) → 32 * b + 32 ≤ k → get_or now k 0 ≡ get_or before k 0)
    → State now old row c (32 * (b + 1))
step now before old row low high c d b same s fits ed hl hh inside front after = record {
  long = same ∙ s.long;
  done = λ k l. elim (cases_lt k (32 * b)) [
    | inl lt ↦ front k lt ∙ s.done k lt
    | inr ge ↦
        let at : 32 * b + (k - 32 * b) ≡ k = omega arith in
        let v = get_or row k 0 in
        let small : v / 16 < 16 = omega (arith, fits k) in
        let above : get_or high (v / 16) 0 ≡ product c (16 * (v / 16)) = hh (v / 16) small ∙ ap (λ x. product x (v / 16)) ed ∙ times_sixteen_is c (v / 16) small in
        subst (λ q. get_or now q 0 ≡ bit_xor (get_or before q 0) (bit_xor (get_or low (get_or row q 0 % 16) 0) (get_or high (get_or row q 0 / 16) 0))) at (inside (k - 32 * b) (omega arith))
        ∙ (λ i. bit_xor (s.rest k ge i) (bit_xor (hl (v % 16) (omega arith) i) (above i)))
        ∙ ap (bit_xor (get_or old k 0)) (by_bits c v)
  ];
  rest = λ k l. after k (omega arith) ∙ s.rest k (omega arith);
}

pub loop-block-preserved : goal.loop-block-preserved
loop-block-preserved c =
    step c.add_block.new.acc c.loop-block.acc c.args.acc.now c.args.row.now c.products-low.result c.products-high.result c.args.c c.times_sixteen.result c.loop-block.block
    c.add_block.auto.acc c.loop-block.invariant (λ k. (c.type_inv.row k).fits) c.times_sixteen.ensures c.products-low.ensures.each c.products-high.ensures.each
    c.add_block.ensures.inside c.add_block.ensures.before c.add_block.ensures.after

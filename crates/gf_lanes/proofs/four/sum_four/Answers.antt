use Rattle.std.proofs.Common.{◌≡◌, ℕ, ◌+◌, ◌-◌, ◌*◌, ◌<◌, ◌∙◌, List, get_or, length, subst, arith, inl, inr}
use Rattle.std.proofs.lemmas.Bool.{cases_lt}
use Rattle.gf_lanes.specs.Lanes.{HasLanes}
use Rattle.gf_lanes.specs.Sums.{part_sum}
use Rattle.gf_lanes.proofs.four.sum_four.Invariants.{Made}
use Rattle.gf_lanes.proofs.four.sum_four.Goals as goal

-- 32 places more are made
step : (now before lanes cs parts : List ℕ) (p b : ℕ) → length now ≡ length before → Made before cs parts p (32 * b) → HasLanes lanes (λ q. part_sum cs parts p (32 * b + q))
    → ((k : ℕ) → k < 32 → get_or now (32 * b + k) 0 ≡ get_or lanes k 0) → ((k : ℕ) → k < 32 * b → get_or now k 0 ≡ get_or before k 0)
    → Made now cs parts p (32 * (b + 1))
step now before lanes cs parts p b same made sums inside front = record {
  long = same ∙ made.long;
  done = λ j l. elim (cases_lt j (32 * b)) [
    | inl lt ↦ front j lt ∙ made.done j lt
    | inr ge ↦
        let at : 32 * b + (j - 32 * b) ≡ j = omega arith in
        let lt : j - 32 * b < 32 = omega arith in
        subst (λ i. get_or now i 0 ≡ part_sum cs parts p i) at (inside (j - 32 * b) lt ∙ sums.each (j - 32 * b) lt)
  ];
}

pub loop-block-preserved : goal.loop-block-preserved
loop-block-preserved c = record {
  first = step c.store.new.out c.loop-block.first c.sums_at-sums.result.first c.args.first_factors.now c.args.parts.now (length c.args.first.now) c.loop-block.block
      c.store.auto.out c.loop-block.invariant.first c.sums_at-sums.ensures.first c.store.ensures.inside c.store.ensures.before;
  second = step c.store-in-loop-block.new.out c.loop-block.second c.sums_at-sums.result.second c.args.second_factors.now c.args.parts.now (length c.args.first.now) c.loop-block.block
      c.store-in-loop-block.auto.out c.loop-block.invariant.second c.sums_at-sums.ensures.second c.store-in-loop-block.ensures.inside c.store-in-loop-block.ensures.before;
  third = step c.store-in-loop-block-2.new.out c.loop-block.third c.sums_at-sums.result.third c.args.third_factors.now c.args.parts.now (length c.args.first.now) c.loop-block.block
      c.store-in-loop-block-2.auto.out c.loop-block.invariant.third c.sums_at-sums.ensures.third c.store-in-loop-block-2.ensures.inside c.store-in-loop-block-2.ensures.before;
  fourth = step c.store-in-loop-block-3.new.out c.loop-block.fourth c.sums_at-sums.result.fourth c.args.fourth_factors.now c.args.parts.now (length c.args.first.now) c.loop-block.block
      c.store-in-loop-block-3.auto.out c.loop-block.invariant.fourth c.sums_at-sums.ensures.fourth c.store-in-loop-block-3.ensures.inside c.store-in-loop-block-3.ensures.before;
}

use Rattle.std.proofs.Common.{◌≡◌, ℕ, zero, suc, ◌+◌, ◌*◌, ◌%◌, ◌^◌, ◌<◌, ◌≤◌, ◌∙◌, arith, subst, length, List, get_or, bit_xor}
use Rattle.gf_lanes.specs.ProductRows.{IsRow, AreRows}
use Rattle.gf_lanes.proofs.ProductRowLemmas.{row_of_sum, rows_stay, rows_more}
use Rattle.gf_lanes.proofs.product_table.double_rows.Invariants.{State}
use Rattle.gf_lanes.proofs.product_table.double_rows.Goals as goal

power_small : (bit : ℕ) → bit < 8 → 2 ^ bit ≤ 128
power_small zero h = omega arith
power_small (suc zero) h = omega arith
power_small (suc (suc zero)) h = omega arith
power_small (suc (suc (suc zero))) h = omega arith
power_small (suc (suc (suc (suc zero)))) h = omega arith
power_small (suc (suc (suc (suc (suc zero))))) h = omega arith
power_small (suc (suc (suc (suc (suc (suc zero)))))) h = omega arith
power_small (suc (suc (suc (suc (suc (suc (suc zero))))))) h = omega arith
power_small (suc (suc (suc (suc (suc (suc (suc (suc bit)))))))) h = absurd (omega arith)

step : (now old : List ℕ) (bit rest power : ℕ) → power ≡ 2 ^ bit → rest < power → length now ≡ length old → State old bit rest
    → ((k : ℕ) → k < 32 → get_or now (32 * (power + rest) + k) 0 ≡ bit_xor (get_or old (32 * power + k) 0) (get_or old (32 * rest + k) 0))
    → ((k : ℕ) → k < 32 * (power + rest) → get_or now k 0 ≡ get_or old k 0)
    → 1 ≤ rest → State now bit (rest + 1)
step now old bit rest power is below same before here front some = record {
  long = same ∙ before.long;
  rows =
      let stay : AreRows now (2 ^ bit + rest) = rows_stay now old (2 ^ bit + rest) before.rows (λ k l. front k (omega arith)) in
      let row : IsRow now (power + rest) =
      row_of_sum now old power rest bit is (omega arith) (before.rows power (omega arith)) (before.rows rest (omega arith)) here in
      subst (AreRows now) (let e : 2 ^ bit + rest + 1 ≡ 2 ^ bit + (rest + 1) = omega arith in e)
      (rows_more now (2 ^ bit + rest) stay (subst (IsRow now) (let e : power + rest ≡ 2 ^ bit + rest = omega arith in e) row));
}

pub loop-rest-preserved : goal.loop-rest-preserved
loop-rest-preserved c =
    let small : 2 ^ c.args.bit ≤ 128 = power_small c.args.bit c.requires.low in
    let power : 1 * 2 ^ c.args.bit % 18446744073709551616 ≡ 2 ^ c.args.bit = omega arith in
    step c.put_sum.new.bytes c.loop-rest.bytes c.args.bit c.loop-rest.rest _ power c.loop-rest-test.true c.put_sum.auto.bytes c.loop-rest.invariant
    c.put_sum.ensures.here c.put_sum.ensures.before c.loop-rest.auto.rest

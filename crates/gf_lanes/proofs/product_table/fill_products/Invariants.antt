use Rattle.std.proofs.Common.{◌≡◌, ◌^◌, ℕ, List, length}
use Rattle.gf_lanes.specs.ProductRows.{AreRows}
use Rattle.gf_lanes.proofs.product_table.fill_products.Given as goal

pub record State (bytes : List ℕ) (bit : ℕ) : Type 0 where
  pub long : length bytes ≡ 8192
  pub rows : AreRows bytes (2 ^ bit)

abbrev pub invariant-loop-bit : goal.invariant-loop-bit
invariant-loop-bit l = State l.bytes l.bit

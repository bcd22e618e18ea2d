use Rattle.std.proofs.Common.{◌≡◌, ◌+◌, ◌^◌, ℕ, List, length}
use Rattle.gf_lanes.specs.ProductRows.{AreRows}
use Rattle.gf_lanes.proofs.product_table.double_rows.Given as goal

pub record State (bytes : List ℕ) (bit rest : ℕ) : Type 0 where
  pub long : length bytes ≡ 8192
  pub rows : AreRows bytes (2 ^ bit + rest)

abbrev pub invariant-loop-rest : goal.invariant-loop-rest
invariant-loop-rest l = State l.bytes l.bit l.rest

use Rattle.std.proofs.Common.{◌≡◌, ℕ, ◌<◌, ◌≤◌, get_or, bit_xor, List}
use Rattle.gf_lanes.proofs.add_copy.Given as goal

-- the places below j hold their sum, and the others are as they were
pub record State (now old row : List ℕ) (j : ℕ) : Type 0 where
  pub done : (k : ℕ) → k < j → get_or now k 0 ≡ bit_xor (get_or old k 0) (get_or row k 0)
  pub rest : (k : ℕ) → j ≤ k → get_or now k 0 ≡ get_or old k 0

abbrev pub invariant-loop-j : goal.invariant-loop-j
invariant-loop-j l = State l.acc l.initial.acc l.row l.j

-- A piece that is written in parts.
use Rattle.std.proofs.Common.{◌≡◌, ◌+◌, ◌-◌, ◌++◌, ℕ, List, length, take, drop, arith}
use Rattle.std.proofs.lemmas.Grind.{common_steps}
use Rattle.std.proofs.Math.Seq.{take-add}

-- a prefix of a piece, and a prefix of the rest of it
pub take-more : (piece : List ℕ) (done count : ℕ) → take (done + count) piece ≡ take done piece ++ take count (take (length piece - done) (drop done piece))
take-more piece done count = grind (arith, common_steps, take-add done count piece)

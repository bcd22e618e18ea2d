use Rattle.std.proofs.Common.{ℕ, ◌≢◌, ◌<◌, ◌==◌, count_by}
use Rattle.std.specs.Prelude.{slice_index}
use Rattle.vote_board.proofs.counting.frequent.Given as goal

abbrev pub invariant-loop-value : goal.invariant-loop-value
invariant-loop-value l = (k : ℕ) → k < l.value-index → slice_index l.found k ≢ 0 → count_by (λ y. y == slice_index l.found k) l.found < l.need

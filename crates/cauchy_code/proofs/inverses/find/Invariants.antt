use Rattle.std.proofs.Common.{◌≢◌, ℕ, ◌<◌, get_or, map}
use Rattle.cauchy_code.proofs.inverses.find.Given as goal

abbrev pub invariant-loop-entry : goal.invariant-loop-entry
invariant-loop-entry l = (k : ℕ) → k < l.entry-index → get_or (map (λ e. e.xs.items) l.entries) k l.xs ≢ l.xs

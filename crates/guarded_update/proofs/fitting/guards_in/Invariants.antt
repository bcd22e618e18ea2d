use Rattle.std.proofs.Common.{◌≡◌, ◌<◌, ◌+◌, ◌-◌, ◌^◌, min, length}
use Rattle.guarded_update.specs.Fitting as fit
use Rattle.guarded_update.proofs.fitting.guards_in.Given as goal

abbrev pub invariant-loop-rest : goal.invariant-loop-rest
invariant-loop-rest l = (l.total < 2 ^ 64) × (min (l.total + fit.guards_in l.rest) (2 ^ 64 - 1) ≡ min (fit.guards_in l.clauses) (2 ^ 64 - 1))

abbrev pub decreases-loop-rest : goal.decreases-loop-rest
decreases-loop-rest l = length l.rest

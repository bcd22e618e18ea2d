use Rattle.std.proofs.Common.{◌≡◌, ◌<◌, ◌+◌, ◌-◌, ◌^◌, min, length}
use Rattle.guarded_update.specs.Fitting as fit
use Rattle.guarded_update.proofs.fitting.content_of.Given as goal

abbrev pub invariant-loop-rest : goal.invariant-loop-rest
invariant-loop-rest l = (l.total < 2 ^ 64) × (min (l.total + fit.content_of l.rest) (2 ^ 64 - 1) ≡ min (fit.content_of l.actions) (2 ^ 64 - 1))

abbrev pub decreases-loop-rest : goal.decreases-loop-rest
decreases-loop-rest l = length l.rest

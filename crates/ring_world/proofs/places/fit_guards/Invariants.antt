use Rattle.std.proofs.Common.{length}
use Rattle.std.specs.List.{AllByRecursion}
use Rattle.guarded_update.specs.Fitting.{IsGuard}
use Rattle.ring_world.proofs.places.fit_guards.Given as goal

abbrev pub invariant-loop-rest : goal.invariant-loop-rest
invariant-loop-rest l = AllByRecursion IsGuard l.rest → AllByRecursion IsGuard l.guards

abbrev pub decreases-loop-rest : goal.decreases-loop-rest
decreases-loop-rest l = length l.rest

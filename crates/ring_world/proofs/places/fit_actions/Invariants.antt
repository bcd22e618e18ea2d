use Rattle.std.proofs.Common.{IsTrue, length}
use Rattle.std.specs.List.{list_all, AllByRecursion}
use Rattle.guarded_update.specs.Fitting.{action_is_short, IsAction}
use Rattle.ring_world.proofs.places.fit_actions.Given as goal

abbrev pub invariant-loop-rest : goal.invariant-loop-rest
invariant-loop-rest l = record {
  all : IsTrue (list_all action_is_short l.rest);
  fit : AllByRecursion IsAction l.rest → AllByRecursion IsAction l.actions;
}

abbrev pub decreases-loop-rest : goal.decreases-loop-rest
decreases-loop-rest l = length l.rest

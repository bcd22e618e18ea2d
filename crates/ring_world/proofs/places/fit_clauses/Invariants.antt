use Rattle.std.proofs.Common.{IsTrue, length}
use Rattle.std.specs.List.{list_all, AllByRecursion}
use Rattle.guarded_update.specs.Fitting.{clause_is_short, IsClause}
use Rattle.ring_world.proofs.places.fit_clauses.Given as goal

abbrev pub invariant-loop-rest : goal.invariant-loop-rest
invariant-loop-rest l = record {
  all : IsTrue (list_all clause_is_short l.rest);
  fit : AllByRecursion IsClause l.rest → AllByRecursion IsClause l.clauses;
}

abbrev pub decreases-loop-rest : goal.decreases-loop-rest
decreases-loop-rest l = length l.rest

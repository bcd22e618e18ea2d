use Rattle.std.proofs.Common.{◌≡◌, ◌++◌, IsTrue, length}
use Rattle.std.specs.List.{flat_map, list_all, AllByRecursion}
use Rattle.guarded_update.proofs.spelled.write_items.Given as goal

abbrev pub invariant-loop-rest : goal.invariant-loop-rest
invariant-loop-rest g l = record {
  all : IsTrue (list_all g.T.Spelled.writable l.rest);
  added : l.out.items ++ flat_map g.T.Spelled.spelling l.rest ≡ l.fn.out.items ++ flat_map g.T.Spelled.spelling l.items;
  allowed : AllByRecursion g.T.Spelled.allowed l.rest → AllByRecursion g.T.Spelled.allowed l.items;
}

abbrev pub decreases-loop-rest : goal.decreases-loop-rest
decreases-loop-rest g l = length l.rest

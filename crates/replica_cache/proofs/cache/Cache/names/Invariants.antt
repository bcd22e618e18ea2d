use Rattle.std.proofs.Common.{◌≡◌, ◌++◌}
use Rattle.replica_model.specs.Caches.{names_of}
use Rattle.replica_cache.proofs.cache.Cache.names.Given as goal

abbrev pub invariant-loop-name : goal.invariant-loop-name
invariant-loop-name l =
    record {
      can : goal.iterator-loop-name.can_next l.name-iterator;
      finite : goal.iterator-loop-name.is_finite l.name-iterator;
      so_far : l.names ++ names_of l.name-iterator ≡ names_of l.self.entries;
    }

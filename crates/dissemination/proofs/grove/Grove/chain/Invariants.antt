use Rattle.std.proofs.Common.{◌≡◌, ◌++◌}
use Rattle.replica_model.specs.declared.places.Place.TheVariants.{Replica as At}
use Rattle.replica_model.specs.Replicas.{IsPlaceOf, parents_of, chain}
use Rattle.dissemination.proofs.Climbing.{height}
use Rattle.dissemination.proofs.grove.Grove.chain.Given as goal

abbrev pub invariant-loop-place : goal.invariant-loop-place
invariant-loop-place l =
    record {
      there : IsPlaceOf l.replicas l.place;
      so_far : l.places ++ chain (parents_of l.replicas) l.place ≡ chain (parents_of l.replicas) (At l.replica);
    }

abbrev pub decreases-loop-place : goal.decreases-loop-place
decreases-loop-place l = height l.place

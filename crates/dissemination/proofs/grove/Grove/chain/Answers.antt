use Rattle.std.proofs.Common.{◌<◌, ◌++◌, ◌∙◌, ℕ, List, length, ap, sym, subst}
use Rattle.replica_model.specs.declared.places.Place.{Place}
use Rattle.replica_model.specs.declared.places.Place.TheVariants.{Replica as At}
use Rattle.replica_model.specs.Replicas.{Replica, IsForest, IsPlaceOf, parents_of, chain}
use Rattle.dissemination.proofs.Climbing.{parent_is_there, chain_further, chain_ends}
use Rattle.dissemination.proofs.grove.Grove.chain.Goals as goal

pub loop-place-preserved : goal.loop-place-preserved
loop-place-preserved c =
    let replicas : List Replica = c.as_slice-replicas.result.now in
    let parents : List Place = parents_of replicas in
    let r : ℕ = c.in-Replica.number in
    let parent : Place = c.parent_of-place.result in
    let place : Place = c.loop-place.place in
    let forest : IsForest parents = subst (λ (list : List Replica). IsForest (parents_of list)) (sym c.as_slice-replicas.ensures.value) c.self.invariant in
    let there : r < length replicas = subst (IsPlaceOf replicas) c.in-Replica.is c.loop-place.invariant.there in
    record {
      there = parent_is_there replicas r parent forest there c.parent_of-place.ensures;
      so_far = chain_further parents r parent place c.loop-place.places c.push.new.self (chain parents (At c.args.replica)) forest c.parent_of-place.ensures c.in-Replica.is c.in_ok-push.ensures.ok c.loop-place.invariant.so_far;
    }

pub returns-clause-places : goal.returns-clause-places
returns-clause-places c =
    let replicas : List Replica = c.as_slice-replicas.result.now in
    let place : Place = c.loop-place.place in
    c.in_ok-push-2.ensures.ok
    ∙ ap (λ (ps : List Place). c.loop-place.places ++ ps) (sym (chain_ends (parents_of replicas) place c.in_default.not-Replica))
    ∙ c.loop-place.invariant.so_far
    ∙ ap (λ (list : List Replica). chain (parents_of list) (At c.args.replica)) (c.as_slice-replicas.ensures.value ∙ c.self.view_is)

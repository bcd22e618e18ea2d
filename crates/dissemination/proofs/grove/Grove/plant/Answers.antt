use Rattle.std.proofs.Common.{◌≡◌, sym, subst, List, rules}
use Rattle.replica_model.specs.Replicas.{Replica, IsForest, IsPlaceOf, parents_of}
use Rattle.dissemination.proofs.Changing.{forest_more}
use Rattle.dissemination.proofs.grove.Grove.plant.Goals as goal

pub invariant_of-self : goal.invariant_of-self
invariant_of-self c =
    let same : c.push.new.self.items ≡ c.self.inside.replicas.items = search rules in
    subst (λ (g : List Replica). IsForest (parents_of g)) (sym same) c.self.invariant

pub invariant_of-self-2 : goal.invariant_of-self-2
invariant_of-self-2 c =
    forest_more c.self.inside.replicas.items c.push.new.self.items _ c.in_ok-push.ensures.items c.self.invariant
    (subst (λ (g : List Replica). IsPlaceOf g c.in_ok-replica.replica.parent) (sym c.self.view_is)
    (subst (λ (it : Replica). IsPlaceOf c.args.self.now it.parent) (sym c.in_ok-replica.ensures) c.requires.parent))

use Rattle.std.proofs.Common.{◌≡◌, List, ℕ}
use Rattle.replica_model.specs.Replicas.{parents_of, chain}
use Rattle.replica_model.specs.declared.places.Place.TheVariants.{Replica as At}
use Rattle.replica_model.proofs.Keeping.{IsRight, up_keeps, pushed_keeps, holds_wider}
use Rattle.replica_model.proofs.laws.names_are_kept.Goals as goal

IsAny : List ℕ → Type 0
IsAny bytes = Unit {0}

pub returns : goal.returns
unfolding IsAny
returns c = λ h answers replicas r all.
    let right = holds_wider (λ name bytes. h bytes ≡ name) (IsRight h IsAny answers) replicas (λ name bytes e. (e, tt)) all in (
      (λ name. holds_wider (IsRight h IsAny answers) (λ n bytes. h bytes ≡ n) _ (λ n bytes e. e.0) (up_keeps h IsAny answers name (chain (parents_of replicas) (At r)) replicas right (λ s c. tt))),
      (λ label. holds_wider (IsRight h IsAny answers) (λ n bytes. h bytes ≡ n) _ (λ n bytes e. e.0) (pushed_keeps h IsAny answers replicas r label right (λ s c. tt))),
    )

-- A push of a label to a replica. Throughout, h names byte strings.
use Rattle.std.specs.Prelude.{ℕ, ◌||◌, List, [], Some, None, nat_le, slice_get, if◌then◌else◌}
use Rattle.replica_model.specs.Replicas.{Replica, parents_of, kept_last, with_last, changed_at, above}
use Rattle.replica_model.specs.Offers.{Answers}
use Rattle.replica_model.specs.Walks.{walked, tree_depth}
use Rattle.replica_model.specs.declared.places.Place.{Place}
use Rattle.replica_model.specs.declared.places.Place.TheVariants.{Member, Replica as At}
use Rattle.replica_model.specs.declared.places.Last.{Last}
use Rattle.replica_model.specs.declared.places.Push.{Push}
use Rattle.replica_model.specs.declared.places.Push.TheVariants.{Took, Behind, Cut}

-- what a push comes to, the replicas after it, and the strings that were named for it, in order
pub record Pushed : Type 0 where
  pub answer : Push
  pub replicas : List Replica
  pub named : List (List ℕ)

-- the version that a place has of a label
abbrev pub last_at : Answers → List Replica → Place → List ℕ → Last
last_at answers replicas (Member member) label = answers.last member label
last_at answers replicas (At r) label = kept_last replicas r label

-- replica r takes a version of a label, and walks its strings
abbrev pub taking : (List ℕ → List ℕ) → Answers → List Replica → ℕ → List ℕ → Last → Pushed
taking h answers replicas r label last =
    let walk = walked h answers (above replicas r) r tree_depth last.name replicas in
    record { answer = Took last.version walk.put walk.missing; replicas = changed_at walk.replicas r (with_last label last); named = walk.named }

-- a push that changes nothing
abbrev pub refused : Push → List Replica → Pushed
refused answer replicas = record { answer = answer; replicas = replicas; named = [] }

-- unless its parent's version is newer than its own, replica r is not behind it
abbrev pub taken_if_newer : (List ℕ → List ℕ) → Answers → List Replica → ℕ → List ℕ → Last → Last → Pushed
taken_if_newer h answers replicas r label mine theirs =
    if nat_le theirs.version.0 mine.version.0 then refused (Behind mine.version theirs.version) replicas else taking h answers replicas r label theirs

-- a push of a label to replica r: refused where it or its parent is cut
unfoldable pub pushed : (List ℕ → List ℕ) → Answers → List Replica → ℕ → List ℕ → Pushed
pushed h answers replicas r label =
    elim (slice_get (parents_of replicas) r) [
      | None ↦ refused Cut replicas
      | Some parent ↦
          if answers.cut (At r) || answers.cut parent then refused Cut replicas
          else taken_if_newer h answers replicas r label (last_at answers replicas (At r) label) (last_at answers replicas parent label)
    ]

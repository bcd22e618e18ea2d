-- What a replica gives that is asked for a string by its name. Throughout, h names byte strings.
use Rattle.std.specs.Prelude.{ℕ, Bool, List, [], ◌∷◌, ◌++◌, Option, Some, None, slice_get, slice_set, if◌then◌else◌}
use Rattle.std.specs.Option.{option_map}
use Rattle.std.specs.Str.{bytes_eq}
use Rattle.std.specs.FinMap as map_of
use Rattle.pond_base.specs.declared.numbers.MemberId.{MemberId}
use Rattle.replica_model.specs.Caches.{kept_as, with_front, touched}
use Rattle.replica_model.specs.Replicas.{Replica, with_entries, changed_at, parents_of, chain}
use Rattle.replica_model.specs.declared.places.Place.{Place}
use Rattle.replica_model.specs.declared.places.Place.TheVariants.{Member, Replica as At}
use Rattle.replica_model.specs.declared.places.Last.{Last}

-- what the members answer, and which places are cut. A member answers a label with its newest version, 0 where it is faulty or has
-- none, and a name with a string, or with nothing
pub record Answers : Type 0 where
  pub last : MemberId → List ℕ → Last
  pub string : MemberId → List ℕ → Option (List ℕ)
  pub cut : Place → Bool

-- what is offered under a name, the replicas after that, and the strings that were named for it, in order
pub record Offer : Type 0 where
  pub string : Option (List ℕ)
  pub replicas : List Replica
  pub named : List (List ℕ)

-- an offer for which nothing was named
abbrev pub given : Option (List ℕ) → List Replica → Offer
given string replicas = record { string = string; replicas = replicas; named = [] }

-- an offer before which these strings were named too
abbrev pub after_names : List (List ℕ) → Offer → Offer
after_names named offer = record { string = offer.string; replicas = offer.replicas; named = named ++ offer.named }

-- what a replica offers by itself, and the replica after it: a lie for the name, or else the cached string, which moves to the front
abbrev pub own : Replica → List ℕ → Option (List ℕ × Replica)
own it name =
    elim (map_of.get it.lies name) [
      | Some bytes ↦ Some (bytes, it)
      | None ↦ option_map (λ (bytes : List ℕ). (bytes, with_entries it (touched it.cache.entries name))) (kept_as it.cache.entries name)
    ]

-- the replica with the string at the front of its cache
abbrev pub put_front : List ℕ → List ℕ → Replica → Replica
put_front name bytes it = with_entries it (with_front it.cache.size it.cache.entries name bytes)

-- what replica r makes of what came for a name: a string is named, and where the name is right it goes to the front of the cache and
-- is offered; any other is passed over
abbrev pub taken_in : (List ℕ → List ℕ) → List ℕ → ℕ → Option (List ℕ) → List Replica → Offer
taken_in h name r None replicas = given None replicas
taken_in h name r (Some bytes) replicas =
    after_names (bytes ∷ []) (if bytes_eq (h bytes) name then given (Some bytes) (changed_at replicas r (put_front name bytes)) else given None replicas)

-- an offer of the first of some places, and nothing where it is cut
abbrev pub unless_cut : Answers → List Place → List Replica → Offer → Offer
unless_cut answers [] replicas offer = given None replicas
unless_cut answers (place ∷ places) replicas offer = if answers.cut place then given None replicas else offer

-- what replica r takes in from the place above it, which offers this where it is not cut
abbrev pub taken_from : (List ℕ → List ℕ) → Answers → List ℕ → ℕ → List Place → List Replica → Offer → Offer
taken_from h answers name r places replicas offer =
    let came = unless_cut answers places replicas offer in after_names came.named (taken_in h name r came.string came.replicas)

-- what replica r offers by itself, and otherwise this
abbrev pub own_or : List Replica → List ℕ → ℕ → Offer → Offer
own_or replicas name r otherwise =
    elim (slice_get replicas r) [
      | None ↦ given None replicas
      | Some it ↦ elim (own it name) [ Some found ↦ given (Some found.0) (slice_set replicas r found.1) | None ↦ otherwise ]
    ]

-- what the first of some places offers, each of which is the parent of the one before it
unfoldable pub offered_up : (List ℕ → List ℕ) → Answers → List ℕ → List Place → List Replica → Offer
offered_up h answers name [] replicas = given None replicas
offered_up h answers name (Member member ∷ places) replicas = given (answers.string member name) replicas
offered_up h answers name (At r ∷ places) replicas =
    own_or replicas name r (taken_from h answers name r places replicas (offered_up h answers name places replicas))

-- what replica r offers
abbrev pub offered : (List ℕ → List ℕ) → Answers → List Replica → ℕ → List ℕ → Offer
offered h answers replicas r name = offered_up h answers name (chain (parents_of replicas) (At r)) replicas

-- what replica r takes in from its parent, whatever it has itself
unfoldable pub fetched : (List ℕ → List ℕ) → Answers → List Place → ℕ → List ℕ → List Replica → Offer
fetched h answers places r name replicas = taken_from h answers name r places replicas (offered_up h answers name places replicas)

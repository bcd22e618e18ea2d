-- What holds of caches, chains, offers and walks.
use Rattle.std.specs.Prelude.{◌≡◌, ◌≤◌, ◌<◌, ◌+◌, ℕ, List, ◌∷◌, length, Some, None, slice_get}
use Rattle.std.specs.FinMap as map_of
use Rattle.replica_model.specs.Caches.{Entries, kept_as, with_front, touched}
use Rattle.replica_model.specs.Replicas.{Replica, IsForest, CachesHold, chain}
use Rattle.replica_model.specs.Offers.{Answers, offered}
use Rattle.replica_model.specs.Pushes.{pushed}
use Rattle.replica_model.specs.Walks.{walked, tree_depth}
use Rattle.replica_model.specs.declared.places.Place.{Place}
use Rattle.replica_model.specs.declared.places.Place.TheVariants.{Replica as At}

-- a string that was put is found under its name
abbrev pub KeptStringsAreFound : Type 0
KeptStringsAreFound = (size : ℕ) (entries : Entries) (name bytes : List ℕ) → 0 < size → kept_as (with_front size entries name bytes) name ≡ Some bytes

-- a touch changes the order alone
abbrev pub TouchingFindsTheSame : Type 0
TouchingFindsTheSame = (entries : Entries) (name other : List ℕ) → kept_as (touched entries name) other ≡ kept_as entries other

-- a cache never has more entries than its size
abbrev pub NoMoreThanTheSize : Type 0
NoMoreThanTheSize = (size : ℕ) (entries : Entries) (name bytes : List ℕ) → length (with_front size entries name bytes) ≤ size

-- the chain of a replica goes on with that of its parent
abbrev pub ChainsGoUp : Type 0
ChainsGoUp = (parents : List Place) (r : ℕ) (parent : Place) → IsForest parents → slice_get parents r ≡ Some parent → chain parents (At r) ≡ At r ∷ chain parents parent

-- A push walks at most 17,043,521 strings that are put or missing: a tree of five levels has no more.
abbrev pub WalksAreShort : Type 0
WalksAreShort = (h : List ℕ → List ℕ) (answers : Answers) (places : List Place) (r : ℕ) (name : List ℕ) (replicas : List Replica)
    → (walked h answers places r tree_depth name replicas).put + (walked h answers places r tree_depth name replicas).missing ≤ 17043521

-- each cached string has the name under which it stands
abbrev pub CachesAreNamed : (List ℕ → List ℕ) → List Replica → Type 0
CachesAreNamed h replicas = CachesHold (λ name bytes. h bytes ≡ name) replicas

-- where each cached string has its name, this is so after an offer and after a push
abbrev pub NamesAreKept : Type 0
NamesAreKept = (h : List ℕ → List ℕ) (answers : Answers) (replicas : List Replica) (r : ℕ) → CachesAreNamed h replicas
    → ((name : List ℕ) → CachesAreNamed h (offered h answers replicas r name).replicas) × ((label : List ℕ) → CachesAreNamed h (pushed h answers replicas r label).replicas)

-- then what a replica offers has the name that it was asked for, unless it is a lie of its own
abbrev pub OffersAreNamed : Type 0
OffersAreNamed = (h : List ℕ → List ℕ) (answers : Answers) (replicas : List Replica) (r : ℕ) (it : Replica) (name bytes : List ℕ) → CachesAreNamed h replicas → slice_get replicas r ≡ Some it
    → map_of.get it.lies name ≡ None → (offered h answers replicas r name).string ≡ Some bytes → h bytes ≡ name

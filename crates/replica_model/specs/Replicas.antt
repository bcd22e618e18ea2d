-- A replica, and a list of replicas by their numbers, each with a parent of lower number.
use Rattle.std.specs.Prelude.{◌≡◌, ◌⊎◌, ℕ, zero, suc, ◌<◌, List, [], ◌∷◌, Some, None, map, length, drop, replicate, refl, slice_get, slice_set}
use Rattle.std.proofs.Common.{inl, inr}
use Rattle.std.specs.Coded.{Coded, code_by, coded×, coded⊎, coded_ℕ, coded_list}
use Rattle.std.specs.Option.{unwrap_or}
use Rattle.std.specs.Ordering.{nat_cmp}
use Rattle.std.specs.Cmp.Lexicographic.{slice_cmp}
use Rattle.std.specs.FinMap as map_of
use Rattle.std.specs.FinMap.{FinMap}
use Rattle.replica_model.specs.Caches.{Cached, coded_cached, kept_as}
use Rattle.replica_model.specs.declared.places.Place.{Place}
use Rattle.replica_model.specs.declared.places.Place.TheVariants.{Member, Replica as At}
use Rattle.replica_model.specs.declared.places.Last.{Last}

-- a place is stored as the number of its member or of its replica
abbrev pub number_of : Place → ℕ ⊎ ℕ
number_of (Member member) = inl member.0
number_of (At r) = inr r

abbrev pub place_of : ℕ ⊎ ℕ → Place
place_of (inl member) = Member (record { 0 = member })
place_of (inr r) = At r

pub place_of-number_of : (place : Place) → place_of (number_of place) ≡ place
place_of-number_of (Member member) = refl
place_of-number_of (At r) = refl

abbrev pub coded_place : Coded Place
coded_place = code_by (ℕ ⊎ ℕ) (coded⊎ coded_ℕ coded_ℕ) number_of place_of place_of-number_of

-- a version is stored as its number and its name
abbrev pub coded_last : Coded Last
coded_last = code_by (ℕ × List ℕ) (coded× coded_ℕ (coded_list coded_ℕ)) (λ last. (last.version.0, last.name)) (λ p. record { version = record { 0 = p.0 }; name = p.1 }) (λ _. refl)

-- strings under names
abbrev pub Strings : Type 0
Strings = FinMap (slice_cmp nat_cmp) (List ℕ)

abbrev pub coded_strings : Coded Strings
coded_strings = map_of.code {R = slice_cmp nat_cmp} (coded_list coded_ℕ) (coded_list coded_ℕ)

-- versions under labels
abbrev pub Versions : Type 0
Versions = FinMap (slice_cmp nat_cmp) Last

abbrev pub coded_versions : Coded Versions
coded_versions = map_of.code {R = slice_cmp nat_cmp} (coded_list coded_ℕ) coded_last

-- a replica: its parent, its cache, the lies that it gives in place of the strings of some names, and the versions that it keeps
pub record Replica : Type 0 where
  pub parent : Place
  pub cache : Cached
  pub lies : Strings
  pub versions : Versions

-- a replica is stored as its fields
abbrev pub coded_replica : Coded Replica
coded_replica =
    code_by ((Place × Cached) × (Strings × Versions)) (coded× (coded× coded_place coded_cached) (coded× coded_strings coded_versions))
    (λ it. ((it.parent, it.cache), (it.lies, it.versions))) (λ p. record { parent = p.0.0; cache = p.0.1; lies = p.1.0; versions = p.1.1 }) (λ _. refl)

-- a replica with nothing in it
abbrev pub planted : Place → ℕ → Replica
planted parent size = record { parent = parent; cache = record { entries = []; size = size }; lies = map_of.empty; versions = map_of.empty }

-- the replica with these entries in its cache
abbrev pub with_entries : Replica → List (List ℕ × List ℕ) → Replica
with_entries it entries = record { parent = it.parent; cache = record { entries = entries; size = it.cache.size }; lies = it.lies; versions = it.versions }

-- the replica with a lie for a name, in place of any former one
abbrev pub with_lie : List ℕ → List ℕ → Replica → Replica
with_lie name bytes it = record { parent = it.parent; cache = it.cache; lies = map_of.insert it.lies name bytes; versions = it.versions }

-- the replica with this version of a label, in place of any former one
abbrev pub with_last : List ℕ → Last → Replica → Replica
with_last label last it = record { parent = it.parent; cache = it.cache; lies = it.lies; versions = map_of.insert it.versions label last }

-- version 0, whose name is never asked for
abbrev pub first_version : Last
first_version = record { version = record { 0 = 0 }; name = replicate 20 0 }

-- the version that a replica keeps of a label, first 0
abbrev pub last_of : Replica → List ℕ → Last
last_of it label = unwrap_or (map_of.get it.versions label) first_version

-- the version that replica r keeps of a label
abbrev pub kept_last : List Replica → ℕ → List ℕ → Last
kept_last replicas r label = elim (slice_get replicas r) [ None ↦ first_version | Some it ↦ last_of it label ]

-- the replicas after a change of one of them
abbrev pub changed_at : List Replica → ℕ → (Replica → Replica) → List Replica
changed_at replicas r change = elim (slice_get replicas r) [ None ↦ replicas | Some it ↦ slice_set replicas r (change it) ]

-- the replicas with empty caches: all that neither an offer nor a fault changes
abbrev pub cleared : List Replica → List Replica
cleared replicas = map (λ it. with_entries it []) replicas

abbrev pub parents_of : List Replica → List Place
parents_of replicas = map (λ (it : Replica). it.parent) replicas

abbrev pub caches_of : List Replica → List Cached
caches_of replicas = map (λ (it : Replica). it.cache) replicas

-- each parent that is a replica has a lower number
abbrev pub IsForest : List Place → Type 0
IsForest parents = (r p : ℕ) → slice_get parents r ≡ Some (At p) → p < r

-- the place is a member, or one of the replicas
abbrev pub IsPlaceOf : List Replica → Place → Type 0
IsPlaceOf replicas (Member member) = Unit {0}
IsPlaceOf replicas (At r) = r < length replicas

-- what stands in each cache under a name, is so
abbrev pub CachesHold : (List ℕ → List ℕ → Type 0) → List Replica → Type 0
CachesHold IsSo [] = Unit {0}
CachesHold IsSo (it ∷ replicas) = ((name bytes : List ℕ) → kept_as it.cache.entries name ≡ Some bytes → IsSo name bytes) × CachesHold IsSo replicas

-- a place and those above it, at most so many steps up
abbrev pub chain_within : List Place → ℕ → Place → List Place
chain_within parents steps (Member member) = Member member ∷ []
chain_within parents zero (At r) = []
chain_within parents (suc steps) (At r) = At r ∷ elim (slice_get parents r) [ None ↦ [] | Some parent ↦ chain_within parents steps parent ]

-- a place, its parent, the parent of that, and so on up to a member
unfoldable pub chain : List Place → Place → List Place
chain parents place = chain_within parents (length parents) place

-- the places above a replica
abbrev pub above : List Replica → ℕ → List Place
above replicas r = drop 1 (chain (parents_of replicas) (At r))

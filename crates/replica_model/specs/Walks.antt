-- The walk of a push: over the strings at a name and below it, each before those below it, from the left. Throughout, h names byte
-- strings.
use Rattle.std.specs.Prelude.{ℕ, zero, suc, ◌+◌, ◌*◌, Bool, ◌&&◌, ◌==◌, List, [], ◌∷◌, ◌++◌, length, take, drop, nat_le, slice_index, Option, Some, None, slice_get, if◌then◌else◌}
use Rattle.std.specs.Option.{is_some}
use Rattle.std.specs.Str.{bytes_eq}
use Rattle.tree_format.specs.Strings.{names_in}
use Rattle.replica_model.specs.Caches.{kept_as}
use Rattle.replica_model.specs.Replicas.{Replica}
use Rattle.replica_model.specs.Offers.{Answers, Offer, fetched}
use Rattle.replica_model.specs.declared.places.Place.{Place}

-- so many bytes are so many names, 1 to 64
abbrev pub are_whole : ℕ → List ℕ → Bool
are_whole count names = nat_le 1 count && nat_le count 64 && (length names == 20 * count)

-- the names in an inner string
abbrev pub names_in_inner : List ℕ → List (List ℕ)
names_in_inner string = let count = slice_index string 1 in if are_whole count (drop 2 string) then names_in count (drop 2 string) else []

-- the name of the top in a root string, unless its version is empty
abbrev pub top_in_root : List ℕ → List (List ℕ)
top_in_root string =
    if length string == 54 then (if bytes_eq (take 4 (drop 5 string)) (0 ∷ 0 ∷ 0 ∷ 0 ∷ []) then [] else take 20 (drop 14 string) ∷ []) else []

-- the names of the strings that stand below a string, by its kind: an inner string, a root, or another one, with none
unfoldable pub below : List ℕ → List (List ℕ)
below string = if slice_index string 0 == 2 then names_in_inner string else (if slice_index string 0 == 3 then top_in_root string else [])

-- the replicas after a walk, how many strings it put, how many are missing, and the strings that were named for it, in order
pub record Walk : Type 0 where
  pub replicas : List Replica
  pub put : ℕ
  pub missing : ℕ
  pub named : List (List ℕ)

-- before a walk
abbrev pub unmoved : List Replica → Walk
unmoved replicas = record { replicas = replicas; put = 0; missing = 0; named = [] }

-- a walk, and then another one from where it ended
abbrev pub then_walked : Walk → (List Replica → Walk) → Walk
then_walked walk next =
    let more = next walk.replicas in
    record { replicas = more.replicas; put = walk.put + more.put; missing = walk.missing + more.missing; named = walk.named ++ more.named }

-- an offer, counted: a string that came was put, and one that did not is missing
abbrev pub counted : Offer → Walk
counted offer = record {
  replicas = offer.replicas;
  put = if is_some offer.string then 1 else 0;
  missing = if is_some offer.string then 0 else 1;
  named = offer.named;
}

-- a string that a walk comes to, if there is one, and the walk so far
pub record Step : Type 0 where
  pub string : Option (List ℕ)
  pub walk : Walk

-- what the cache of replica r has under a name
abbrev pub cached_at : List Replica → ℕ → List ℕ → Option (List ℕ)
cached_at replicas r name = elim (slice_get replicas r) [ None ↦ None | Some it ↦ kept_as it.cache.entries name ]

-- the string that replica r has under a name, where it stands, or else takes in from the places above
unfoldable pub stepped : (List ℕ → List ℕ) → Answers → List Place → ℕ → List ℕ → List Replica → Step
stepped h answers places r name replicas =
    elim (cached_at replicas r name) [
      | Some bytes ↦ record { string = Some bytes; walk = unmoved replicas }
      | None ↦ let offer = fetched h answers places r name replicas in record { string = offer.string; walk = counted offer }
    ]

-- a walk for each of some items, one after the other
abbrev pub in_order : {X : Type 0} → (X → List Replica → Walk) → List X → List Replica → Walk
in_order walk [] replicas = unmoved replicas
in_order walk (x ∷ xs) replicas = then_walked (walk x replicas) (in_order walk xs)

-- the walk of replica r over the string of a name and those below it, at most so deep
unfoldable pub walked : (List ℕ → List ℕ) → Answers → List Place → ℕ → ℕ → List ℕ → List Replica → Walk
walked h answers places r zero name replicas = unmoved replicas
walked h answers places r (suc depth) name replicas =
    let step = stepped h answers places r name replicas in
    elim step.string [ None ↦ step.walk | Some bytes ↦ then_walked step.walk (in_order (walked h answers places r depth) (below bytes)) ]

-- a root, at most three levels of inner strings, and a leaf
abbrev pub tree_depth : ℕ
tree_depth = 5

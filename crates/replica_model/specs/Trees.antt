-- The walk of the tree of a version. Its strings stand in rows, the leaves first, and each string of a row above names 64 of the
-- row below it, the last one perhaps fewer. Throughout, h names byte strings, block is how many bytes a whole leaf has, and visit
-- is the step that a walk takes at a name.
use Rattle.std.specs.Prelude.{◌≡◌, ◌≤◌, ◌<◌, ◌^◌, ℕ, zero, suc, ◌*◌, ◌-◌, min, List, [], ◌∷◌, length, get_or, if◌then◌else◌}
use Rattle.std.specs.List.{Contains, range_with_len}
use Rattle.std.specs.Option.{is_some}
use Rattle.object_model.specs.Trees.{rows_of, height_of, version_name, version_strings}
use Rattle.object_model.specs.Updates.{largest}
use Rattle.replica_model.specs.Replicas.{Replica, CachesHold}
use Rattle.replica_model.specs.Offers.{Answers}
use Rattle.replica_model.specs.Walks.{Walk, Step, unmoved, then_walked, in_order, stepped, walked, tree_depth}
use Rattle.replica_model.specs.declared.places.Place.{Place}

-- the row of a level, the leaves being level 0
abbrev pub row_at : List (List (List ℕ)) → ℕ → List (List ℕ)
row_at rows level = get_or rows level []

-- the string at a place of a row
abbrev pub string_at : List (List (List ℕ)) → ℕ → ℕ → List ℕ
string_at rows level place = get_or (row_at rows level) place []

-- the places in a row of so many strings that stand below a place of the row above
abbrev pub places_below : ℕ → ℕ → List ℕ
places_below count place = range_with_len (place * 64) (min 64 (count - place * 64))

-- a step, and where it came to a string, a walk from there
abbrev pub going_on : Step → (List Replica → Walk) → Walk
going_on step next = if is_some step.string then then_walked step.walk next else step.walk

-- the walk of the string at a place and of those below it: the string, and then each of those right below, from the left
abbrev pub place_walk : (List ℕ → List Replica → Step) → (List ℕ → List ℕ) → List (List (List ℕ)) → ℕ → ℕ → List Replica → Walk
place_walk visit h rows zero place replicas = (visit (h (string_at rows 0 place)) replicas).walk
place_walk visit h rows (suc level) place replicas =
    going_on (visit (h (string_at rows (suc level) place)) replicas) (in_order (place_walk visit h rows level) (places_below (length (row_at rows level)) place))

-- the walk of the strings of a content, from the one at the top, unless it is empty and has none
abbrev pub content_walk : (List ℕ → List Replica → Step) → (List ℕ → List ℕ) → ℕ → List ℕ → List Replica → Walk
content_walk visit h block [] replicas = unmoved replicas
content_walk visit h block (byte ∷ bytes) replicas = place_walk visit h (rows_of h block (byte ∷ bytes)) (height_of block (byte ∷ bytes)) 0 replicas

-- the walk of a version: its root, and then the strings of its content
abbrev pub version_walk : (List ℕ → List Replica → Step) → (List ℕ → List ℕ) → ℕ → List ℕ → List (List ℕ) → List Replica → Walk
version_walk visit h block content older replicas = going_on (visit (version_name h block (content ∷ older)) replicas) (content_walk visit h block content)

-- no two different strings of a list have one name
abbrev pub AreApart : (List ℕ → List ℕ) → List (List ℕ) → Type 0
AreApart h strings = (a b : List ℕ) → Contains strings a → Contains strings b → h a ≡ h b → a ≡ b

-- each of the strings is among others
abbrev pub AreAmong : List (List ℕ) → List (List ℕ) → Type 0
AreAmong strings others = (string : List ℕ) → Contains strings string → Contains others string

-- a content can be the newest version over older ones; the oldest version is empty
pub record CanBeVersion (block : ℕ) (content : List ℕ) (older : List (List ℕ)) : Type 0 where
  pub least : 64 ≤ block
  pub most : block ≤ 8192
  pub small : length content ≤ largest
  pub few : length older < 2 ^ 32
  pub first : older ≡ [] → content ≡ []

-- Among the strings of a version, those in caches and those that a walk names, let no two different ones have one name. Then the
-- walk at the name of the version is that of its tree.
abbrev pub WalksFollowTheTree : Type 0
WalksFollowTheTree = (h : List ℕ → List ℕ) (known : List (List ℕ)) (answers : Answers) (places : List Place) (r block : ℕ) (content : List ℕ) (older : List (List ℕ)) (replicas : List Replica)
    → ((string : List ℕ) → length (h string) ≡ 20) → CanBeVersion block content older → AreApart h known → AreAmong (version_strings h block content older) known
    → CachesHold (λ name bytes. (h bytes ≡ name) × Contains known bytes) replicas
    → AreAmong (walked h answers places r tree_depth (version_name h block (content ∷ older)) replicas).named known
    → walked h answers places r tree_depth (version_name h block (content ∷ older)) replicas ≡ version_walk (stepped h answers places r) h block content older replicas

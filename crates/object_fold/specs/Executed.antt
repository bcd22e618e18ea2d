-- The objects after executed requests. Lists of requests, and of the versions that they make, have the newest first. Throughout, h
-- names byte strings, and block is how many bytes a whole leaf has.
use Rattle.std.specs.Prelude.{◌≡◌, ◌==◌, ◌&&◌, ◌||◌, ℕ, Bool, List, [], ◌∷◌, ◌++◌, length, map, All}
use Rattle.std.specs.List.{list_any}
use Rattle.pond_base.specs.declared.numbers.ClientId.{ClientId}
use Rattle.pond_base.specs.declared.numbers.Version.{Version}
use Rattle.block_names.specs.Held.{Held}
use Rattle.guarded_update.specs.declared.request.Request.{Request}
use Rattle.object_model.specs.Trees.{strings_so_far}
use Rattle.object_model.specs.Updates.{newest}
use Rattle.object_model.specs.Folds.{Made, Effect, Makes, Refuses, Repeats, made_by, same_number, versions_of, versions_after}
use Rattle.object_model.specs.Outcomes.{effect_after}
use Rattle.cow_tree.specs.Versions.{IsTreeIn}
use Rattle.cow_tree.specs.Namings.{most_namings}
use Rattle.object_fold.specs.Views.{ObjectsView}
use Rattle.object_fold.specs.Shelves.{trees_of, trees_in, HasOneMore}
use Rattle.object_fold.specs.Added.{added_in, added_of, strings_at, AddsUnder, HasJust}
use Rattle.cow_tree.specs.Views.{NodeView, TreeView}

-- a request's client and number are among these
abbrev pub is_seen : List (ClientId × ℕ) → Request → Bool
is_seen seen request = list_any (λ (pair : ClientId × ℕ). request.client.0 == pair.0.0 && request.number == pair.1) seen

-- the versions that were made in order of making, each by its label and number
abbrev pub in_order : List Made → List (List ℕ × Version)
in_order [] = []
in_order (m ∷ made) = in_order made ++ (m.label, record { 0 = length (versions_of m.label made) }) ∷ []

-- the objects are those after these requests: for each label the trees of its versions, the strings that each of them added and the
-- names of all of them; whose request was executed; and what was made
pub record AreAfter (h : List ℕ → List ℕ) (block : ℕ) (requests : List Request) (objects : ObjectsView) : Type 0 where
  pub trees : (label : List ℕ) → trees_in objects.trees label ≡ trees_of h block (versions_after h block label requests)
  pub added : (label : List ℕ) → added_in objects.added label ≡ added_of h block (versions_after h block label requests)
  pub names : (label : List ℕ) → HasJust (strings_at objects.added label).names (map h (strings_so_far h block (versions_after h block label requests)))
  pub seen : (request : Request) → is_seen objects.seen request ≡ list_any (same_number request) requests
  pub made : objects.made ≡ in_order (made_by h block requests)

-- the objects are those after some requests, and a book holds all strings of their versions
pub record AreKnown (h : List ℕ → List ℕ) (held : Held) (objects : ObjectsView) : Type 0 where
  pub block : ℕ
  pub requests : List Request
  pub after : AreAfter h block requests objects
  pub known : (label : List ℕ) → All (IsTreeIn h held) (trees_in objects.trees label)

-- a request of this client and number stands beside the others now
abbrev pub SeesOneMore : List (ClientId × ℕ) → List (ClientId × ℕ) → ClientId → ℕ → Type 0
SeesOneMore old new client number = (other : Request) → is_seen new other ≡ (other.client.0 == client.0 && other.number == number || is_seen old other)

-- the tree of the version that a request made is kept, with what is new of some changed nodes
pub record KeepsTree (old new : ObjectsView) (request : Request) (tree : TreeView) (changed : List NodeView) : Type 0 where
  pub trees : HasOneMore old.trees new.trees request.label tree
  pub added : AddsUnder old.added new.added request.label changed
  pub seen : SeesOneMore old.seen new.seen request.client request.number
  pub made : new.made ≡ old.made ++ (request.label, tree.root.version) ∷ []

-- whatever requests were executed, a fact holds of them
abbrev pub ForAfter : (List ℕ → List ℕ) → ObjectsView → (ℕ → List Request → Type 0) → Type 0
ForAfter h objects P = (block : ℕ) (requests : List Request) → AreAfter h block requests objects → P block requests

-- the most strings that are named for it
abbrev pub most_for_effect : ℕ → Effect → List (List ℕ) → ℕ
most_for_effect block (Makes content) versions = most_namings block (newest versions) content
most_for_effect block (Refuses refusal) versions = 0
most_for_effect block Repeats versions = 0

-- the most names that it has a book answer
abbrev pub most_named : (List ℕ → List ℕ) → ℕ → Request → List Request → ℕ
most_named h block request earlier = most_for_effect block (effect_after h block request earlier) (versions_after h block request.label earlier)

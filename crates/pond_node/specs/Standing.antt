-- A node, and the letters that it stands for.
use Rattle.std.specs.Prelude.{◌≡◌, ◌≤◌, ◌+◌, ◌-◌, ℕ, List, length, take}
use Rattle.std.specs.List.{AllByRecursion}
use Rattle.block_names.specs.Held.{Held}
use Rattle.ring_message.specs.declared.outcome.Outcome.{Outcome}
use Rattle.ring_message.specs.Grammar.{IsRequestString}
use Rattle.ring_model.specs.Messages.{Ring, Letter, Message, Request, PrePrepare, Prepare, Commit, Reply, Heart, Sealed, Foreign}
use Rattle.ring_model.specs.Member.{executed}
use Rattle.ring_model.specs.Laws.{IsPrefix}
use Rattle.object_fold.specs.Views.{ObjectsView}
use Rattle.object_fold.specs.Executed.{AreAfter, AreKnown}
use Rattle.fold_model.specs.Folds.{requests_of, outcomes_by}
use Rattle.fold_model.specs.Rings.{FoldsAs}
use Rattle.ring_member.specs.Members.{StandsFor}
use Rattle.pond_node.specs.declared.node.Node.{Node}

-- These are the objects and the outcomes after requests, by their strings.
pub record AreOf (h : List ℕ → List ℕ) (block : ℕ) (done : List (List ℕ)) (objects : ObjectsView) (outcomes : List Outcome) : Type 0 where
  pub after : AreAfter h block (requests_of done) objects
  pub outcomes_are : outcomes ≡ outcomes_by h block done

-- whatever requests were executed before a request, a fact holds of them
abbrev pub ForBefore : (List ℕ → List ℕ) → ObjectsView → List Outcome → List ℕ → (ℕ → List (List ℕ) → Type 0) → Type 0
ForBefore h objects outcomes string P = (block : ℕ) (before : List (List ℕ)) → IsRequestString string → AreOf h block before objects outcomes → P block before

-- there is at most one version more, and at most one outcome, and no version without its outcome
pub record AddsOne (old new : ObjectsView) (before after : List Outcome) : Type 0 where
  pub made : length new.made ≤ length old.made + 1
  pub few : length old.made ≤ length before → length new.made ≤ length after
  pub outcomes : length after ≤ length before + 1

-- a message that asks for something asks for a request of the grammar
abbrev pub IsAsked : Message → Type 0
IsAsked (Request string) = IsRequestString string
IsAsked (PrePrepare slot string) = Unit {0}
IsAsked (Prepare slot name) = Unit {0}
IsAsked (Commit slot name) = Unit {0}
IsAsked (Reply number outcome) = Unit {0}
IsAsked (Heart object version name) = Unit {0}
IsAsked (Sealed object version name) = Unit {0}
IsAsked Foreign = Unit {0}

-- The member of a node stands for letters, and the node has executed these requests of it, in a ring that folds them by this naming function.
pub record HasDone (h : List ℕ → List ℕ) (done : List (List ℕ)) (node : Node) (g : Ring) (i : ℕ) (got : List Letter) : Type 0 where
  pub member_stands : StandsFor g i node.member got
  pub clients_are : g.clients ≡ node.clients
  pub folds : FoldsAs h node.block g
  pub asked : AllByRecursion (λ l. IsAsked l.message) got
  pub done_is : AreOf h node.block done node.objects node.outcomes

-- Node i of a ring has executed all that its member has.
abbrev pub HasAll : Node → Ring → ℕ → List Letter → Type 0
HasAll node g i got = HasDone g.h (executed g got) node g i got

-- Node i of a ring stands for letters, and has archived so many versions.
pub record NodeStands (node : Node) (g : Ring) (i : ℕ) (got : List Letter) (archived : ℕ) : Type 0 where
  pub done : HasAll node g i got
  pub archived_are : archived ≡ node.archived

-- A book holds all that a node named, and no more versions were made than requests executed.
pub record IsKnown (h : List ℕ → List ℕ) (held : Held) (node : Node) : Type 0 where
  pub objects_known : AreKnown h held node.objects
  pub few : length node.objects.made ≤ length node.outcomes

-- whatever letters a node stands for that has executed only the first of its member's requests, a fact holds of them and of those requests
abbrev pub ForLater : (List ℕ → List ℕ) → Node → (Ring → ℕ → List Letter → List (List ℕ) → Type 0) → Type 0
ForLater h node P =
    (g : Ring) (i : ℕ) (got : List Letter) (done : List (List ℕ)) → HasDone h done node g i got → IsPrefix done (executed g got) → P g i got done

-- whatever letters a node stands for that has executed its member's requests up to a slot, and not that slot, a fact holds of them
abbrev pub ForNext : (List ℕ → List ℕ) → ℕ → Node → (Ring → ℕ → List Letter → Type 0) → Type 0
ForNext h slot node P =
    (g : Ring) (i : ℕ) (got : List Letter) → 1 ≤ slot → slot ≤ length (executed g got) → HasDone h (take (slot - 1) (executed g got)) node g i got → P g i got

-- What a client of a ring whose members fold what they execute may rely on.
use Rattle.std.specs.Prelude.{◌≡◌, ℕ, List, Some}
use Rattle.block_names.specs.Held.{Held}
use Rattle.block_names.specs.Growth.{Holds}
use Rattle.tree_format.specs.Strings.{label_string}
use Rattle.guarded_update.specs.declared.setup.Setup.{Setup}
use Rattle.object_model.specs.Trees.{object_name, version_name}
use Rattle.ring_model.specs.Messages.{Ring, Client}
use Rattle.ring_model.specs.World.{Event, world, chosen}
use Rattle.ring_model.specs.Belief.{believed, replied, beating, sealing, heart_of}
use Rattle.fold_model.specs.Folds.{Archiving}
use Rattle.fold_model.specs.Laws.{MakesVersion, IsAnswered}
use Rattle.fold_model.specs.LabelLaws.{newest_mark}
use Rattle.ring_world.specs.declared.state.World.{World}
use Rattle.ring_world.specs.Worlds.{WorldStands}
use Rattle.pond_node.specs.declared.node.Node.{Node}
use Rattle.pond_node.specs.Standing.{NodeStands}
use Rattle.pond_world.specs.Setups.{IsSetup, ring_by}

-- each root that a client believes of a version is the name of that version in the fold of the committed list
abbrev pub HeartsAreVersions : (List ℕ → List ℕ) → ℕ → Ring → List Event → ℕ → Type 0
HeartsAreVersions h block g events client = (object : List ℕ) (number : ℕ) (name : List ℕ) → believed g (beating object number) ((world g events).got (Client client)) ≡ Some name
    → (made : MakesVersion h block (chosen g (world g events)) object number) × (name ≡ version_name h block made.versions)

-- each manifest that it believes of a version is the name of that version's manifest
abbrev pub SealsAreManifests : (List ℕ → List ℕ) → ℕ → Archiving → Ring → List Event → ℕ → Type 0
SealsAreManifests h block archiving g events client = (object : List ℕ) (number : ℕ) (name : List ℕ) → believed g (sealing object number) ((world g events).got (Client client)) ≡ Some name
    → (made : MakesVersion h block (chosen g (world g events)) object number) × (name ≡ h (archiving.manifest object made.versions))

-- each outcome that it believes of a request is that at one of the slots of the committed list that hold the request, and where it is not that of a repeat at the first of them
abbrev pub RepliesAreOutcomes : (List ℕ → List ℕ) → ℕ → Ring → List Event → ℕ → Type 0
RepliesAreOutcomes h block g events client = (number : ℕ) (outcome : List ℕ) → believed g (replied number) ((world g events).got (Client client)) ≡ Some outcome
    → IsAnswered h block (chosen g (world g events)) client number outcome

-- its heart of each label, whose string is held, is that of the last version, and none where only the empty one is there
abbrev pub HoldsTheLast : (List ℕ → List ℕ) → Held → ℕ → Ring → List Event → ℕ → Type 0
HoldsTheLast h held block g events client = (label : List ℕ) → Holds h held (label_string label)
    → heart_of g (object_name h label) ((world g events).got (Client client)) ≡ newest_mark h block label (chosen g (world g events))

-- whatever setup a world's ring is that of, and whatever events the world stands for, a fact holds of them
abbrev pub ForSetups : (List ℕ → List ℕ) → World Node → (ℕ → Archiving → Ring → List Event → Type 0) → Type 0
ForSetups h w P = (setup : Setup) (archiving : Archiving) (events : List Event) → IsSetup setup → WorldStands NodeStands (ring_by h setup archiving) w events
    → P setup.block archiving (ring_by h setup archiving) events

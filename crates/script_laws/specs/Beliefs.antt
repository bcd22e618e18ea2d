-- What clients believe is so. Lists of lines have the newest first.
use Rattle.std.specs.Prelude.{◌≡◌, ◌<◌, ℕ, List, ◌++◌, length, Some, Contains}
use Rattle.pond_base.specs.declared.numbers.ClientId.{ClientId}
use Rattle.object_model.specs.Trees.{version_name}
use Rattle.object_model.specs.Folds.{versions_after}
use Rattle.ring_model.specs.Messages.{Mark}
use Rattle.ring_model.specs.World.{chosen}
use Rattle.fold_model.specs.Laws.{IsAnswered}
use Rattle.script_terms.specs.declared.script.Script.{Script}
use Rattle.text_model.specs.Requests.{Numbered}
use Rattle.text_model.specs.Blocks.{up_to}
use Rattle.text_model.specs.Events.{ring_for, world_of}
use Rattle.text_model.specs.Executed.{committed_requests}
use Rattle.text_model.specs.Believed.{believed_heart, believed_outcome}
use Rattle.text_model.specs.Labels.{labels_in}

-- A heart of a label is a version that the committed list has made of it: that list has it, and the heart's name is the name of its root.
pub record IsVersion (h : List ℕ → List ℕ) (script : Script) (lines : List Numbered) (label : List ℕ) (heart : Mark) : Type 0 where
  pub made : heart.version < length (versions_after h script.setup.block label (committed_requests h script lines))
  pub above : 0 < heart.version
  pub name : heart.name ≡ version_name h script.setup.block (up_to heart.version (versions_after h script.setup.block label (committed_requests h script lines)))

-- After whichever of these lines, what clients believe is so.
pub record BeliefsAreTrue (h : List ℕ → List ℕ) (script : Script) (lines : List Numbered) : Type 0 where
  -- the heart of a label that stands in the script is a version that the committed list has made of it
  pub hearts : (later earlier : List Numbered) → lines ≡ later ++ earlier → (client : ClientId) → (line : Numbered) → Contains script.lines line → (label : List ℕ) → Contains (labels_in line.1) label
      → (heart : Mark) → believed_heart h script earlier client label ≡ Some heart → IsVersion h script earlier label heart
  -- the outcome of a request is that at one of the slots of the committed list that hold it, and where it is not that of a repeat at the first of them
  pub outcomes : (later earlier : List Numbered) → lines ≡ later ++ earlier → (client : ClientId) (number : ℕ) (outcome : List ℕ) → believed_outcome h script earlier client number ≡ Some outcome
      → IsAnswered h script.setup.block (chosen (ring_for h script) (world_of h script earlier)) client.0 number outcome

-- What is printed of the requests that a node executed, by their strings, the oldest first.
use Rattle.std.specs.Prelude.{◌<◌, ◌^◌, ℕ, List, Contains}
use Rattle.ring_message.specs.Grammar.{IsRequestString}
use Rattle.ring_model.specs.Messages.{Ring, Letter}
use Rattle.ring_model.specs.Member.{executed}
use Rattle.message_model.specs.Requests.{request_at}
use Rattle.fold_model.specs.Folds.{requests_of}
use Rattle.fold_model.specs.Rings.{FoldsAs}
use Rattle.pond_node.specs.declared.node.Node.{Node}
use Rattle.pond_node.specs.Standing.{NodeStands}
use Rattle.text_model.specs.Blocks.{executed_line}

-- each string spells a request
abbrev pub AreRequestStrings : List (List ℕ) → Type 0
AreRequestStrings strings = (string : List ℕ) → Contains strings string → IsRequestString string

-- whatever requests a node has executed, and whatever number of bytes a whole leaf has where they are folded, a fact holds of them
abbrev pub ForExecuted : Node → ((List ℕ → List ℕ) → ℕ → List (List ℕ) → Type 0) → Type 0
ForExecuted node P =
    (g : Ring) (i : ℕ) (got : List Letter) (archived : ℕ) → NodeStands node g i got archived → (block : ℕ) → block < 2 ^ 32 → FoldsAs g.h block g
    → AreRequestStrings (executed g got) → P g.h block (executed g got)

-- the line of one request more
abbrev pub line_after : (List ℕ → List ℕ) → ℕ → List (List ℕ) → List ℕ → List ℕ
line_after h block before string = executed_line h block (request_at string) (requests_of before)

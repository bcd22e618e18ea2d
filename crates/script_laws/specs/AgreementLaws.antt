-- What is claimed of what members execute and of what clients believe.
use Rattle.std.specs.Prelude.{ℕ, List, Contains}
use Rattle.std.specs.List.{AllByRecursion}
use Rattle.guarded_update.specs.Fitting.{IsRequest}
use Rattle.ring_model.specs.World.{IsLegal}
use Rattle.ring_model.specs.Laws.{NoClash}
use Rattle.script_terms.specs.declared.script.Script.{Script}
use Rattle.script_laws.specs.Limits.{SetupFits}
use Rattle.text_model.specs.Requests.{Numbered, submitted}
use Rattle.text_model.specs.Events.{ring_for, events_of, world_of}
use Rattle.text_model.specs.Clashes as text
use Rattle.text_model.specs.Named.{named}
use Rattle.script_laws.specs.OneList.{IsOneList}
use Rattle.script_laws.specs.Beliefs.{BeliefsAreTrue}

-- Where lines are legal events and submit requests of which no two have one name, what members execute is one list.
abbrev pub ListsAreOne : Type 0
ListsAreOne = (h : List ℕ → List ℕ) (script : Script) (lines : List Numbered) → SetupFits script.setup
    → IsLegal (ring_for h script) (events_of h script lines) → NoClash (ring_for h script) (world_of h script lines).submits
    → AllByRecursion IsRequest (submitted h lines) → IsOneList h script lines

-- Where lines of a script are legal events, submit requests that have a spelling, and no two strings that they name have one name, what clients believe is so.
abbrev pub BeliefsHold : Type 0
BeliefsHold = (h : List ℕ → List ℕ) (script : Script) (lines : List Numbered) → SetupFits script.setup → AllByRecursion (Contains script.lines) lines
    → IsLegal (ring_for h script) (events_of h script lines) → text.NoClash h (named h script lines)
    → AllByRecursion IsRequest (submitted h lines) → BeliefsAreTrue h script lines

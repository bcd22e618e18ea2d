-- What members have executed and what clients believe after the first lines of a script, however many these are. Throughout, h names byte strings.
use Rattle.std.specs.Prelude.{◌≡◌, ℕ, List, length, reverse, take, Ok}
use Rattle.std.specs.List.{AllByRecursion}
use Rattle.guarded_update.specs.Fitting.{IsRequest}
use Rattle.ring_model.specs.World.{IsLegal}
use Rattle.script_terms.specs.declared.script.Script.{Script}
use Rattle.script_grammar.specs.Script.{script_of}
use Rattle.text_model.specs.Clashes.{NoClash}
use Rattle.text_model.specs.Events.{ring_for, events_of}
use Rattle.text_model.specs.Named.{named}
use Rattle.text_model.specs.Requests.{Numbered, submitted}
use Rattle.script_laws.specs.OneList.{IsOneList}
use Rattle.script_laws.specs.Beliefs.{BeliefsAreTrue}

-- so many lines of a script, the newest first
abbrev pub first_lines : Script → ℕ → List Numbered
first_lines script count = reverse (take count script.lines)

-- Of each number of first lines whose named strings do not clash: what correct members executed is one list, which only grew, and what clients believed is so.
abbrev pub FirstLinesAgree : (List ℕ → List ℕ) → Script → Type 0
FirstLinesAgree h script = (count : ℕ) → NoClash h (named h script (first_lines script count))
    → IsOneList h script (first_lines script count) × BeliefsAreTrue h script (first_lines script count)

-- each name has 20 bytes
abbrev pub NamesAreLong : (List ℕ → List ℕ) → Type 0
NamesAreLong h = (bytes : List ℕ) → length (h bytes) ≡ 20

-- Of each number of first lines: their events are legal, and what they submit has a spelling.
abbrev pub FirstLinesAreLegal : Type 0
FirstLinesAreLegal = (h : List ℕ → List ℕ) → NamesAreLong h → (text : List ℕ) (script : Script) → script_of text ≡ Ok script → (count : ℕ)
    → IsLegal (ring_for h script) (events_of h script (first_lines script count)) × AllByRecursion IsRequest (submitted h (first_lines script count))

-- The first lines of each script that a text is agree.
abbrev pub ScriptsAgree : Type 0
ScriptsAgree = (h : List ℕ → List ℕ) → NamesAreLong h → (text : List ℕ) (script : Script) → script_of text ≡ Ok script → FirstLinesAgree h script

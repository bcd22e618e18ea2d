-- How a run ends, and what was taken of its text.
use Rattle.std.specs.Prelude.{◌≡◌, ℕ, List, ◌∷◌, reverse, if◌then◌else◌}
use Rattle.std.specs.Io.KnownBytes.{Appends}
use Rattle.pond_base.specs.Outside.{Seen, Fails, IsSound, AppendsPrefix}
use Rattle.script_terms.specs.declared.script.Script.{Script}
use Rattle.script_laws.specs.OneList.{IsOneList}
use Rattle.script_laws.specs.Beliefs.{BeliefsAreTrue}
use Rattle.script_run.specs.declared.running.End.{End}
use Rattle.script_run.specs.declared.running.End.TheVariants.{Done, WriteFault, Clash, Memory}
use Rattle.text_model.specs.Clashes.{NoClash, IsFirstClash, IsClash, has_clash}
use Rattle.text_model.specs.Named.{named}
use Rattle.text_model.specs.Requests.{Numbered}
use Rattle.text_model.specs.Text.{text_of, line_text, clash_line}

-- a text was taken whole, with no fault
abbrev pub Takes : Seen → List ℕ → Type 0
Takes sink text = Appends sink.before sink.after text × IsSound sink

-- a prefix of a text was taken, and the last take failed
abbrev pub TakesUntilFault : Seen → List ℕ → Type 0
TakesUntilFault sink text = AppendsPrefix sink.before sink.after text × Fails sink

-- a prefix of a text was taken, with no fault
abbrev pub TakesSoFar : Seen → List ℕ → Type 0
TakesSoFar sink text = AppendsPrefix sink.before sink.after text × IsSound sink

-- the strings that a script names up to some lines do not clash
abbrev pub IsClear : (List ℕ → List ℕ) → Script → List Numbered → Type 0
IsClear h script before = NoClash h (named h script before)

-- What an end of a run says. Where it is done, what members executed is one list, and what clients believed is so.
abbrev pub Says : (List ℕ → List ℕ) → Script → Seen → End → Type 0
Says h script sink Done = Takes sink (text_of h script) × IsClear h script (reverse script.lines) × IsOneList h script (reverse script.lines) × BeliefsAreTrue h script (reverse script.lines)
Says h script sink WriteFault = TakesUntilFault sink (text_of h script)
Says h script sink (Clash line old new) = Takes sink (text_of h script) × IsFirstClash h script line old new
Says h script sink Memory = TakesSoFar sink (text_of h script)

-- what is written at a line after earlier ones: its text, or that it is the first up to which two named strings clash
abbrev pub written_at : (List ℕ → List ℕ) → Script → List Numbered → Numbered → List ℕ
written_at h script before line =
    if has_clash h (named h script (line ∷ before)) then clash_line line.0 else line_text h script before line.1

-- what an early end says of the strings and the text up to where it comes; a run is never done there
abbrev pub EndsAt : (List ℕ → List ℕ) → List (List ℕ) → ℕ → List ℕ → Seen → End → Type 0
EndsAt h strings number text sink Done = ⊥
EndsAt h strings number text sink WriteFault = TakesUntilFault sink text
EndsAt h strings number text sink (Clash line old new) = Takes sink text × (line ≡ number) × IsClash h strings old new
EndsAt h strings number text sink Memory = TakesSoFar sink text

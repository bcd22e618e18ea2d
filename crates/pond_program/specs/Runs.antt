-- What the answer of a run of a text says of the text and the sink.
use Rattle.std.specs.Prelude.{◌≡◌, ℕ, List, reverse, Ok, Err, MatchResult}
use Rattle.std.specs.Io.KnownBytes.{Appends}
use Rattle.sha1.specs.Sha1.{sha1}
use Rattle.script_terms.specs.declared.cause.Cause.{Cause}
use Rattle.script_terms.specs.declared.script.Script.{Script}
use Rattle.script_laws.specs.OneList.{IsOneList}
use Rattle.script_laws.specs.Beliefs.{BeliefsAreTrue}
use Rattle.script_laws.specs.FirstLines.{FirstLinesAgree}
use Rattle.script_grammar.specs.Script.{script_of}
use Rattle.text_model.specs.Clashes.{NoClash, IsFirstClash}
use Rattle.text_model.specs.Named.{named}
use Rattle.text_model.specs.Text.{text_of}
use Rattle.pond_base.specs.Outside.{Seen, IsUnused, IsSound, Fails, AppendsPrefix}
use Rattle.pond_program.specs.declared.status.Status.{Status}
use Rattle.pond_program.specs.declared.status.Status.TheVariants.{Done, Refused, WriteFault, Clash, Memory}

-- The sink took the whole text of the script that some bytes are, no two of whose strings clash. Its members executed one list, and what its clients believed is so: after all of its lines, and after each number of its first lines.
abbrev pub TakesText : Seen → List ℕ → Type 0
TakesText sink bytes =
    (script : Script) × (script_of bytes ≡ Ok script) × Appends sink.before sink.after (text_of sha1 script) × NoClash sha1 (named sha1 script (reverse script.lines))
    × IsOneList sha1 script (reverse script.lines) × BeliefsAreTrue sha1 script (reverse script.lines) × FirstLinesAgree sha1 script

-- The sink took the whole text of a script that ends at a clash of two strings. Before it, which is before the line that is told, its first lines agree.
abbrev pub TakesUntilClash : Seen → ℕ → List ℕ → List ℕ → List ℕ → Type 0
TakesUntilClash sink line old new bytes =
    (script : Script) × (script_of bytes ≡ Ok script) × Appends sink.before sink.after (text_of sha1 script) × IsFirstClash sha1 script line old new × FirstLinesAgree sha1 script

-- the sink took a prefix of it, and its first lines agree, those that were run and those that were not
abbrev pub TakesPrefix : Seen → List ℕ → Type 0
TakesPrefix sink bytes = (script : Script) × (script_of bytes ≡ Ok script) × AppendsPrefix sink.before sink.after (text_of sha1 script) × FirstLinesAgree sha1 script

-- the sink took a prefix of it, and its first lines agree; the sink was not called where the bytes are no script
abbrev pub TakesAtMost : Seen → List ℕ → Type 0
TakesAtMost sink bytes = MatchResult (script_of bytes) (λ script. AppendsPrefix sink.before sink.after (text_of sha1 script) × FirstLinesAgree sha1 script) (λ refusal. IsUnused sink)

-- a text that is refused
pub record TextIsRefused (bytes : List ℕ) (line : ℕ) (cause : Cause) (sink : Seen) : Type 0 where
  pub refused : script_of bytes ≡ Err (record { line = line; cause = cause })
  pub unwritten : IsUnused sink

-- what each answer of a run of a text says; the others are no answers of one
abbrev pub TextSays : Status → List ℕ → Seen → Type 0
TextSays Done bytes sink = TakesText sink bytes × IsSound sink
TextSays (Refused line cause) bytes sink = TextIsRefused bytes line cause sink
TextSays WriteFault bytes sink = TakesPrefix sink bytes × Fails sink
TextSays (Clash line old new) bytes sink = TakesUntilClash sink line old new bytes × IsSound sink
TextSays Memory bytes sink = TakesAtMost sink bytes × IsSound sink
TextSays status bytes sink = ⊥

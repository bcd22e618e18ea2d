-- The ends of a run of a script that a text is, as answers of a run of the text.
use Rattle.std.proofs.Common.{◌≡◌, ℕ, List, Option, None, Some, Result, Ok, Err, MatchResult, refl, sym, ap, subst, append-nil}
use Rattle.std.specs.Io.KnownBytes.{Appends}
use Rattle.sha1.specs.Sha1.{sha1}
use Rattle.block_names.specs.Digest.{length-sha1}
use Rattle.pond_base.specs.Outside.{Seen, IsUnused, AppendsPrefix}
use Rattle.script_laws.specs.FirstLines.{FirstLinesAgree, ScriptsAgree}
use Rattle.script_grammar.specs.Script.{Refusal, script_of}
use Rattle.script_run.specs.declared.running.End.{End}
use Rattle.script_run.specs.declared.running.End.TheVariants as ends
use Rattle.script_run.specs.Ends as run
use Rattle.script_terms.specs.declared.script.Script.{Script}
use Rattle.text_model.specs.Text.{text_of}
use Rattle.pond_program.specs.declared.status.Status.{Status}
use Rattle.pond_program.specs.declared.status.Status.TheVariants.{Done, WriteFault, Clash, Memory}
use Rattle.pond_program.specs.Runs.{TextSays, TakesAtMost}

-- the first lines of the script that a text is agree
agree : ScriptsAgree → (text : List ℕ) (script : Script) → script_of text ≡ Ok script → FirstLinesAgree sha1 script
agree law text script is = law sha1 length-sha1 text script is

-- where a text is a script, a prefix of its text was taken
pub prefix_taken : ScriptsAgree → (text : List ℕ) (script : Script) (sink : Seen) → script_of text ≡ Ok script → AppendsPrefix sink.before sink.after (text_of sha1 script) → TakesAtMost sink text
prefix_taken law text script sink is took =
    subst (λ (read : Result Script Refusal). MatchResult read (λ script. AppendsPrefix sink.before sink.after (text_of sha1 script) × FirstLinesAgree sha1 script) (λ refusal. IsUnused sink)) (sym is) (took, agree law text script is)

-- the status of an end
abbrev pub status_of : End → Status
status_of ends.Done = Done
status_of ends.WriteFault = WriteFault
status_of (ends.Clash line old new) = Clash line old new
status_of ends.Memory = Memory

pub text_says : ScriptsAgree → (text : List ℕ) (script : Script) (sink : Seen) (end : End) → script_of text ≡ Ok script → run.Says sha1 script sink end → TextSays (status_of end) text sink
text_says law text script sink ends.Done is says = ((script, is, says.0.0, says.1, says.2, says.3, agree law text script is), says.0.1)
text_says law text script sink ends.WriteFault is says = ((script, is, says.0, agree law text script is), says.1)
text_says law text script sink (ends.Clash line old new) is says = ((script, is, says.0.0, says.1, agree law text script is), says.0.1)
text_says law text script sink ends.Memory is says = (prefix_taken law text script sink is says.0, says.1)

-- nothing is a prefix
appends_nothing : (known : Option (List ℕ)) (text : List ℕ) → AppendsPrefix known known text
appends_nothing None text = (0, tt)
appends_nothing (Some bytes) text = (0, sym (append-nil bytes))

-- nothing was taken of a text, whether it is a script or not
pub nothing_taken : ScriptsAgree → (text : List ℕ) (sink : Seen) → IsUnused sink → TakesAtMost sink text
nothing_taken law text sink unused =
    elim (script_of text) as (λ (read : Result Script Refusal). script_of text ≡ read → MatchResult read (λ script. AppendsPrefix sink.before sink.after (text_of sha1 script) × FirstLinesAgree sha1 script) (λ refusal. IsUnused sink)) [
      | Ok script ↦ λ is. (subst (λ after. AppendsPrefix sink.before after (text_of sha1 script)) (sym unused.same) (appends_nothing sink.before (text_of sha1 script)), agree law text script is)
      | Err refusal ↦ λ is. unused
    ] refl

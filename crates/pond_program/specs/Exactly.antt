-- The other direction of the table: which answers remain where the outside is as told.
use Rattle.std.specs.Prelude.{◌≡◌, ◌<◌, ◌⊎◌, List, length, reverse, Ok, Err, IfSome}
use Rattle.sha1.specs.Sha1.{sha1}
use Rattle.script_terms.specs.declared.script.Script.{Script}
use Rattle.script_grammar.specs.Script.{Refusal, script_of}
use Rattle.text_model.specs.Clashes.{NoClash}
use Rattle.text_model.specs.Named.{named}
use Rattle.pond_base.specs.Outside.{Seen, Fails}
use Rattle.pond_program.specs.declared.status.Status.{Status}
use Rattle.pond_program.specs.declared.status.Status.TheVariants.{Done, Usage, Refused, ReadFault, Clash, Memory, TooLarge}
use Rattle.pond_program.specs.declared.task.Task.{Task}
use Rattle.pond_program.specs.declared.task.Task.TheVariants as tasks
use Rattle.pond_program.specs.Table.{Outside, Says, IsSmall, most_bytes}
use Rattle.pond_program.specs.Tasks.{task_of}

-- bytes that are no script are refused at the first line with a fault, unless reading failed or memory ran out
abbrev pub RefusedWhere : Status → Seen → Type 0
RefusedWhere status source = IfSome source.before (λ bytes. (refusal : Refusal) → IsSmall bytes → script_of bytes ≡ Err refusal
    → (status ≡ Refused refusal.line refusal.cause) ⊎ (status ≡ ReadFault) ⊎ (status ≡ Memory))

-- too many bytes are too large, unless reading failed or memory ran out
abbrev pub TooLargeWhere : Status → Seen → Type 0
TooLargeWhere status source = IfSome source.before (λ bytes. most_bytes < length bytes → (status ≡ TooLarge) ⊎ (status ≡ ReadFault) ⊎ (status ≡ Memory))

-- a script whose strings do not clash is done, unless the source or the sink failed or memory ran out
abbrev pub CompleteWhere : Status → Seen → Seen → Type 0
CompleteWhere status source sink = (¬ Fails source) → (¬ Fails sink)
    → IfSome source.before (λ bytes. (script : Script) → IsSmall bytes → script_of bytes ≡ Ok script → NoClash sha1 (named sha1 script (reverse script.lines))
    → (status ≡ Done) ⊎ (status ≡ Memory))

-- an answer that tells a clash
abbrev pub TellsClash : Status → Type 0
TellsClash (Clash line old new) = Unit {0}
TellsClash status = ⊥

-- a script whose strings clash ends at a clash, unless the source or the sink failed or memory ran out
abbrev pub ClashWhere : Status → Seen → Seen → Type 0
ClashWhere status source sink = (¬ Fails source) → (¬ Fails sink)
    → IfSome source.before (λ bytes. (script : Script) → IsSmall bytes → script_of bytes ≡ Ok script → (¬ NoClash sha1 (named sha1 script (reverse script.lines)))
    → TellsClash status ⊎ (status ≡ Memory))

-- which answers of `run` remain
pub record RunRemains (status : Status) (source sink : Seen) : Type 0 where
  pub refused : RefusedWhere status source
  pub too_large : TooLargeWhere status source
  pub complete : CompleteWhere status source sink
  pub clash : ClashWhere status source sink

-- which answers of a task remain; where the words are none that the program knows, it is Usage
abbrev pub RemainsFor : Task → Status → Seen → Seen → Type 0
RemainsFor tasks.Run status source sink = RunRemains status source sink
RemainsFor tasks.Usage status source sink = status ≡ Usage

-- what the program promises of its answer
pub record Answers (status : Status) (o : Outside) : Type 0 where
  pub says : Says status o
  pub remains : RemainsFor (task_of o.words) status o.source o.sink

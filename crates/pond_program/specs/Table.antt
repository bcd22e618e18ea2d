-- The table of statuses, by the task that the words ask for: what each answer says of the source and the sink.
use Rattle.std.specs.Prelude.{◌≡◌, ◌≤◌, ◌<◌, ◌⊎◌, ℕ, List, length, IfSome, Err}
use Rattle.std.specs.Io.KnownBytes.{IsAtEnd}
use Rattle.pond_base.specs.Outside.{Seen, IsUnused, Fails, IsSound}
use Rattle.script_terms.specs.declared.cause.Cause.{Cause}
use Rattle.script_grammar.specs.Script.{script_of}
use Rattle.pond_program.specs.declared.status.Status.{Status}
use Rattle.pond_program.specs.declared.status.Status.TheVariants.{Done, Usage, Refused, ReadFault, WriteFault, Clash, Memory, TooLarge}
use Rattle.pond_program.specs.declared.task.Task.{Task}
use Rattle.pond_program.specs.declared.task.Task.TheVariants as tasks
use Rattle.pond_program.specs.Runs.{TakesText, TakesUntilClash, TakesPrefix, TakesAtMost}
use Rattle.pond_program.specs.Tasks.{task_of}

-- what a call of the program saw of the outside
pub record Outside : Type 0 where
  pub words : List (List ℕ)
  pub source : Seen
  pub sink : Seen

-- ---- where a script is run

-- the most bytes of a script
abbrev pub most_bytes : ℕ
most_bytes = 1048576

-- the bytes are not too many for a script
abbrev pub IsSmall : List ℕ → Type 0
IsSmall bytes = length bytes ≤ most_bytes

-- the source was read to its end and never failed, and of all its bytes a fact holds
pub record ReadsAll (source : Seen) (P : List ℕ → Type 0) : Type 0 where
  pub ended : IsAtEnd source.after
  pub sound : IsSound source
  pub bytes : IfSome source.before (λ bytes. IsSmall bytes × P bytes)

-- the script was run, and its whole text was taken
pub record IsDone (source sink : Seen) : Type 0 where
  pub read : ReadsAll source (TakesText sink)
  pub sound : IsSound sink

-- the source gave bytes that are no script: this is the first line with a fault, and its cause
pub record IsRefused (source sink : Seen) (line : ℕ) (cause : Cause) : Type 0 where
  pub read : ReadsAll source (λ bytes. script_of bytes ≡ Err (record { line = line; cause = cause }))
  pub unwritten : IsUnused sink

-- the last take of the source failed
pub record IsReadFault (source sink : Seen) : Type 0 where
  pub failed : Fails source
  pub unwritten : IsUnused sink

-- the last take of the sink failed while the script was run
pub record IsWriteFault (source sink : Seen) : Type 0 where
  pub read : ReadsAll source (TakesPrefix sink)
  pub failed : Fails sink

-- the script was run up to the first clash of two strings, and its whole text was taken
pub record IsClashed (source sink : Seen) (line : ℕ) (old new : List ℕ) : Type 0 where
  pub read : ReadsAll source (TakesUntilClash sink line old new)
  pub sound : IsSound sink

-- memory ran out: before anything was written, or while the script was run
pub record IsMemory (source sink : Seen) : Type 0 where
  pub unfailed : IsSound source × IsSound sink
  pub written : IsUnused sink ⊎ ReadsAll source (TakesAtMost sink)

-- the source gave more bytes than a script may have
pub record IsTooLarge (source sink : Seen) : Type 0 where
  pub unfailed : IsSound source
  pub large : IfSome source.before (λ bytes. most_bytes < length bytes)
  pub unwritten : IsUnused sink

-- the rows of `run`
abbrev pub RunSays : Status → Seen → Seen → Type 0
RunSays Done source sink = IsDone source sink
RunSays Usage source sink = ⊥
RunSays (Refused line cause) source sink = IsRefused source sink line cause
RunSays ReadFault source sink = IsReadFault source sink
RunSays WriteFault source sink = IsWriteFault source sink
RunSays (Clash line old new) source sink = IsClashed source sink line old new
RunSays Memory source sink = IsMemory source sink
RunSays TooLarge source sink = IsTooLarge source sink

-- ---- where the words are none that the program knows

-- nothing was read or written
pub record IsUntouched (source sink : Seen) : Type 0 where
  pub unread : IsUnused source
  pub unwritten : IsUnused sink

-- the one row of usage
abbrev pub UsageSays : Status → Seen → Seen → Type 0
UsageSays Usage source sink = IsUntouched source sink
UsageSays status source sink = ⊥

-- ---- the table

abbrev pub SaysFor : Task → Status → Seen → Seen → Type 0
SaysFor tasks.Run status source sink = RunSays status source sink
SaysFor tasks.Usage status source sink = UsageSays status source sink

abbrev pub Says : Status → Outside → Type 0
Says status o = SaysFor (task_of o.words) status o.source o.sink

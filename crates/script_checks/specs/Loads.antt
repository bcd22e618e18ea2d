-- What stands for the actions of a script's lines.
use Rattle.std.specs.Prelude.{◌≡◌, ℕ, Bool, true, false, List, length, map, reverse, ◌&&◌, if◌then◌else◌}
use Rattle.std.specs.Str.{bytes_eq}
use Rattle.guarded_update.specs.declared.update.Action.{Action}
use Rattle.guarded_update.specs.declared.update.Action.TheVariants.{Replace, Append, Truncate, Splice}
use Rattle.script_grammar.specs.Load.{Sent, reach_in, load}
use Rattle.script_checks.specs.declared.load.Entry.{Entry}

-- the load in blocks, and what is kept of the actions, the newest first
pub record Loaded : Type 0 where
  pub blocks : ℕ
  pub entries : List Entry

-- a splice or a delete
abbrev pub is_splice : Action → Bool
is_splice (Splice offset remove content) = true
is_splice action = false

-- what is kept of an action
abbrev pub entry_of : Sent → Entry
entry_of s = record { label = s.label; adds = reach_in s.action; is_splice = is_splice s.action }

-- a load stands for some actions, the newest first
pub record Stands (loaded : Loaded) (block : ℕ) (sent : List Sent) : Type 0 where
  pub entries : loaded.entries ≡ map entry_of sent
  pub blocks : loaded.blocks ≡ load block sent

-- actions on a label, the last first
abbrev pub newest : List ℕ → List Action → List Sent
newest label actions = map (λ a. record { label = label; action = a }) (reverse actions)

-- what an entry adds to the reach of a label
abbrev pub adds_of : List ℕ → Entry → ℕ
adds_of label e = if bytes_eq e.label label then e.adds else 0

-- an entry is of a splice on a label
abbrev pub is_splice_of : List ℕ → Entry → Bool
is_splice_of label e = bytes_eq e.label label && e.is_splice

-- how many bytes an action is weighed with on a label of this reach
abbrev pub weight : Action → ℕ → ℕ
weight (Replace offset content) reach = length content
weight (Append content) reach = length content
weight (Truncate kept) reach = 0
weight (Splice offset remove content) reach = reach

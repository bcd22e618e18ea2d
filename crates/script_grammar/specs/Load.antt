-- The load of the lines of a script.
use Rattle.std.specs.Prelude.{ℕ, ◌+◌, ◌-◌, ◌*◌, ◌/◌, min, Bool, List, [], length, map, reverse, nat_le, sum_by, ◌&&◌, if◌then◌else◌}
use Rattle.std.specs.List.{flat_map}
use Rattle.std.specs.Str.{bytes_eq}
use Rattle.guarded_update.specs.declared.update.Action.{Action}
use Rattle.guarded_update.specs.declared.update.Action.TheVariants.{Replace, Append, Truncate, Splice}
use Rattle.script_terms.specs.declared.item.Item.{Item}
use Rattle.script_terms.specs.declared.item.Item.TheVariants.{Event}
use Rattle.script_terms.specs.declared.line.Line.TheVariants.{Submit}
use Rattle.script_terms.specs.declared.line.LineClause.{LineClause}

-- an action on the object of a label
pub record Sent : Type 0 where
  pub label : List ℕ
  pub action : Action

-- the actions of all clauses
abbrev pub actions : List LineClause → List Action
actions clauses = flat_map (λ (c : LineClause). c.actions) clauses

-- the actions of an update, the last first
abbrev pub sent_by : List ℕ → List LineClause → List Sent
sent_by label clauses = map (λ action. record { label = label; action = action }) (reverse (actions clauses))

-- the actions that a line sends
abbrev pub sent_in : Item → List Sent
sent_in (Event (Submit client label clauses)) = sent_by label clauses
sent_in item = []

-- the actions that some lines send
abbrev pub sent : List Item → List Sent
sent lines = flat_map sent_in lines

-- by how many bytes an action may lengthen the object of its label
abbrev pub reach_in : Action → ℕ
reach_in (Append content) = length content
reach_in (Splice offset remove content) = length content
reach_in action = 0

-- by how many bytes an action may lengthen the object of a label
abbrev pub reach_of : List ℕ → Sent → ℕ
reach_of label s = if bytes_eq s.label label then reach_in s.action else 0

-- the reach of a label: how long its object can become, which is at most 1,048,576 bytes
abbrev pub reach : List Sent → List ℕ → ℕ
reach sent label = min 1048576 (sum_by (reach_of label) sent)

-- how many bytes an action is weighed with: its content, and for a splice or delete the reach of its label
abbrev pub weighed : (List ℕ → ℕ) → Sent → ℕ
weighed reach s = elim s.action [ Replace offset content ↦ length content | Append content ↦ length content | Truncate kept ↦ 0 | Splice offset remove content ↦ reach s.label ]

-- how many blocks of a size so many bytes load
abbrev pub blocks : ℕ → ℕ → ℕ
blocks block count = (count + block - 1) / block + 2

-- the load of some actions in blocks, each splice weighed with the reach that all of them give its label
abbrev pub load : ℕ → List Sent → ℕ
load block sent = sum_by (λ s. blocks block (weighed (reach sent) s)) sent

-- the load is within 8,192 blocks and 33,554,432 bytes
abbrev pub is_borne : ℕ → List Sent → Bool
is_borne block sent = nat_le (load block sent) 8192 && nat_le (load block sent * block) 33554432

-- What a step asks and answers.
use Rattle.std.specs.Prelude.{◌≡◌, ◌≢◌, ℕ, ◌+◌, ◌-◌, ◌<◌, ◌≤◌, List, length, slice_index_or, slice_get, Bool, true, false, cond, is_some, Option, Some, None, filter, ◌==◌, Result, Ok, Err, IsTrue}
use Rattle.std.specs.List.{sum_by}
use Rattle.std.specs.FinMap as map
use Rattle.block_names.specs.Held.{Held}
use Rattle.block_names.specs.Clashes.{AreClash}
use Rattle.block_names.specs.declared.fault.StepFault.{StepFault}
use Rattle.block_names.specs.declared.fault.StepFault.TheVariants.{Clash, Ended, Memory}
use Rattle.guarded_update.specs.Fitting.{update_fits}
use Rattle.ring_model.specs.Messages.{Ring, Party, Member as member, Client as client, Packet}
use Rattle.ring_model.specs.World as model
use Rattle.ring_model.specs.World.{World as Model, between, happens}
use Rattle.message_model.specs.Meaning.{who}
use Rattle.client_core.specs.declared.client.Client.{Client}
use Rattle.ring_world.specs.declared.state.World.{World}
use Rattle.ring_world.specs.declared.event.Event.{Event}
use Rattle.ring_world.specs.declared.event.Event.TheVariants.{Submit, Resubmit, Deliver, Forge}
use Rattle.ring_world.specs.declared.said.Said.{Said}
use Rattle.ring_world.specs.declared.said.Said.TheVariants.{Nothing, Sent}

-- a client of the world
abbrev pub IsClient : {N : Type 0} → World N → ℕ → Type 0
IsClient w c = (c < 16) × (c < length w.clients.items)

-- a party of the world
abbrev pub IsDeclared : {N : Type 0} → World N → Party → Type 0
IsDeclared w (member i) = (i < 10) × (i < length w.members.nodes.items)
IsDeclared w (client c) = IsClient w c

-- an update is within the limits and its client has a number left, a resubmitted number was submitted, and parties are declared
abbrev pub IsStep : {N : Type 0} → World N → Event → Type 0
IsStep w (Submit c label update) = IsClient w c.0 × ((d : Client) → length (slice_index_or w.clients.items c.0 d).requests.items < 65536) × IsTrue (update_fits update)
IsStep w (Resubmit c n) = IsClient w c.0 × (0 < n) × ((d : Client) → n ≤ length (slice_index_or w.clients.items c.0 d).requests.items)
IsStep w (Deliver p q k) = IsDeclared w (who p) × IsDeclared w (who q)
IsStep w (Forge i q bytes) = IsDeclared w (member i.0) × IsDeclared w (who q)

-- how many requests all clients submitted
abbrev pub all_asked : {N : Type 0} → World N → ℕ
all_asked w = sum_by (λ (c : Client). length c.requests.items) w.clients.items

-- an event may come next: a step can do it, there is a slot for one request more, and a forger is faulty, so that it has no node
abbrev pub IsNext : {N : Type 0} → World N → Event → Type 0
IsNext {N} w (Submit c label update) = IsStep w (Submit c label update) × (all_asked w < 65536)
IsNext {N} w (Resubmit c n) = IsStep w (Resubmit c n)
IsNext {N} w (Deliver p q k) = IsStep w (Deliver p q k)
IsNext {N} w (Forge i q bytes) = IsStep w (Forge i q bytes) × ((d : Option N) → slice_index_or w.members.nodes.items i.0 d ≡ None)

-- whether an event finds what it needs: a delivery its message
abbrev pub is_there : Model → model.Event → Bool
is_there v (model.Event.Deliver p q k) = is_some (slice_get (between p q v.sent) k)
is_there v _ = true

abbrev pub said_by : Bool → List Packet → List Packet → Said
said_by there before after = cond there (Sent (length after - length before)) Nothing

-- Nothing for a message that was not sent, else how many messages were added
abbrev pub said_of : Ring → Model → model.Event → Said
said_of g v e = said_by (is_there v e) v.sent (happens g v e).sent

-- the fault is Ended exactly where the world had ended, and a world that answers another fault has ended
abbrev pub Ends : {N X : Type 0} → World N → World N → Result X StepFault → Type 0
Ends old new (Ok x) = (old.ended ≡ false) × (new.ended ≡ false)
Ends old new (Err Ended) = (old.ended ≡ true) × (new ≡ old)
Ends old new (Err (Clash one other)) = (old.ended ≡ false) × (new.ended ≡ true)
Ends old new (Err Memory) = (old.ended ≡ false) × (new.ended ≡ true)

-- a clash is of a string of a kind with a different one of its name that is held
abbrev pub IsStepClash : (List ℕ → List ℕ) → Held → (List ℕ → Type 0) → StepFault → Type 0
IsStepClash h held Of (Clash old new) = (map.get held (h new) ≡ Some old) × (old ≢ new) × Of new
IsStepClash h held Of Ended = Unit {0}
IsStepClash h held Of Memory = Unit {0}

-- it is of two different strings of one name, among those that were held before and those of a kind
abbrev pub IsStepClashAmong : (List ℕ → List ℕ) → Held → (List ℕ → Type 0) → StepFault → Type 0
IsStepClashAmong h held Of (Clash old new) = AreClash h held Of old new
IsStepClashAmong h held Of Ended = Unit {0}
IsStepClashAmong h held Of Memory = Unit {0}

-- the requests of a client are numbered 1, 2, and so on
abbrev pub InOrder : Ring → List (List ℕ) → Type 0
InOrder g submits = (c k : ℕ) (r : List ℕ) → slice_get (filter (λ t. g.owner t == c) submits) k ≡ Some r → g.number r ≡ k + 1

-- The events of the ring that the lines of a script are. Lists of lines and of events have the newest first.
use Rattle.std.specs.Prelude.{ℕ, zero, suc, ◌-◌, Bool, not, ◌||◌, ◌==◌, List, [], ◌∷◌, ◌++◌, filter, slice_get, Some, None, unwrap_or}
use Rattle.std.specs.List.{list_any}
use Rattle.pond_base.specs.declared.numbers.ClientId.{ClientId}
use Rattle.pond_base.specs.declared.numbers.MemberId.{MemberId}
use Rattle.pond_base.specs.declared.numbers.Party.{Party}
use Rattle.guarded_update.specs.Spelling.{request_string}
use Rattle.object_model.specs.Trees.{object_name}
use Rattle.ring_model.specs.Messages.{Ring, Message, PrePrepare, Prepare, Commit, Heart, same_party}
use Rattle.ring_model.specs.World.{World, Event, world}
use Rattle.ring_model.specs.World as model
use Rattle.message_model.specs.Meaning.{who, meaning}
use Rattle.fold_model.specs.Folds.{Archiving}
use Rattle.fold_model.specs.Rings.{ring_of}
use Rattle.ring_model.specs.Places.{Place}
use Rattle.ring_model.specs.Deliveries.{pending}
use Rattle.message_model.specs.Told.{Told, stands_at, touches}
use Rattle.script_grammar.specs.Asks.{is_among}
use Rattle.script_terms.specs.declared.line.Line.{Line}
use Rattle.script_terms.specs.declared.line.Line.TheVariants.{Submit, Resubmit, Deliver, Lose, Settle, Mute, Unmute, ForgeOrder, ForgePrepare, ForgeCommit, ForgeHeart, ForgeRaw}
use Rattle.script_terms.specs.declared.script.Script.{Script}
use Rattle.text_model.specs.Requests.{Numbered, next_request, submitted}

-- whether a script declares a member faulty
abbrev pub is_declared_faulty : Script → ℕ → Bool
is_declared_faulty script number = is_among script.setup.faulty number

-- nothing is archived yet, so all manifests are alike, and there are no fragments
abbrev pub no_archives : Archiving
no_archives = record { manifest = λ object versions. []; fragments = λ object versions. [] }

-- the ring of a script
abbrev pub ring_for : (List ℕ → List ℕ) → Script → Ring
ring_for h script = ring_of script.setup.f script.setup.clients (is_declared_faulty script) h script.setup.block no_archives

-- the muted parties after a line, in the order in which they were muted
abbrev pub muted_by : List Party → Line → List Party
muted_by parties (Mute party) = parties ++ party ∷ []
muted_by parties (Unmute party) = filter (λ other. not (same_party (who other) (who party))) parties
muted_by parties line = parties

abbrev pub muted : List Numbered → List Party
muted [] = []
muted (line ∷ earlier) = muted_by (muted earlier) line.1

-- the lost messages after a line, in order
abbrev pub lost_by : List Told → Line → List Told
lost_by told (Lose sender to place) = told ++ (sender, to, place) ∷ []
lost_by told line = told

abbrev pub lost : List Numbered → List Told
lost [] = []
lost (line ∷ earlier) = lost_by (lost earlier) line.1

-- what a settle passes over after some lines
abbrev pub is_passed : List Numbered → Place → Bool
is_passed earlier place = touches (muted earlier) place || list_any (stands_at place) (lost earlier)

-- the pending messages delivered one after the other, at most so many of them
abbrev pub settled_by : Ring → (Place → Bool) → ℕ → List Event → List Event
settled_by g passed zero events = events
settled_by g passed (suc most) events =
    elim (pending g passed events) [ None ↦ events | Some place ↦ settled_by g passed most (model.Deliver place.from place.to place.place ∷ events) ]

-- more messages than are ever sent
abbrev pub most_messages : ℕ
most_messages = 4294967295

-- the string of a client's request of a number
abbrev pub asked_string : Ring → World → ClientId → ℕ → List ℕ
asked_string g w client number = unwrap_or (slice_get (filter (λ text. g.owner text == client.0) w.submits) (number - 1)) []

-- a message that a faulty member sends
abbrev pub forged : MemberId → Party → Message → List Event → List Event
forged member to message events = model.Forge member.0 (who to) message ∷ events

-- the events after a line
abbrev pub with_events : (List ℕ → List ℕ) → Ring → List Numbered → List Event → Line → List Event
with_events h g earlier events (Submit client label clauses) = model.Submit (request_string (next_request h (submitted h earlier) client label clauses)) ∷ events
with_events h g earlier events (Resubmit client number) = model.Resubmit client.0 number ∷ events
with_events h g earlier events (Deliver sender to place) = model.Deliver (who sender) (who to) (place - 1) ∷ events
with_events h g earlier events Settle = settled_by g (is_passed earlier) most_messages events
with_events h g earlier events (ForgeOrder member to seq client number) = forged member to (PrePrepare seq.0 (asked_string g (world g events) client number)) events
with_events h g earlier events (ForgePrepare member to seq client number) = forged member to (Prepare seq.0 (h (asked_string g (world g events) client number))) events
with_events h g earlier events (ForgeCommit member to seq client number) = forged member to (Commit seq.0 (h (asked_string g (world g events) client number))) events
with_events h g earlier events (ForgeHeart member to label version name) = forged member to (Heart (object_name h label) version.0 name) events
with_events h g earlier events (ForgeRaw member to content) = forged member to (meaning content) events
with_events h g earlier events line = events

-- the events that lines are
abbrev pub events_of : (List ℕ → List ℕ) → Script → List Numbered → List Event
events_of h script [] = []
events_of h script (line ∷ earlier) = with_events h (ring_for h script) earlier (events_of h script earlier) line.1

-- the world of the ring after lines
abbrev pub world_of : (List ℕ → List ℕ) → Script → List Numbered → World
world_of h script lines = world (ring_for h script) (events_of h script lines)

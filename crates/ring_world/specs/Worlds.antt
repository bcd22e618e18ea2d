-- A world of nodes and clients, and the events that it stands for.
use Rattle.std.specs.Prelude.{◌≡◌, ℕ, zero, suc, ◌+◌, ◌*◌, ◌<◌, ◌≤◌, false, not, ◌==◌, List, [], ◌∷◌, map, filter, length, count_by, slice_get, slice_index_or, Option, is_some, IfSome, Contains}
use Rattle.std.specs.List.{AllByRecursion}
use Rattle.circular_buffer.specs.Buffer.{keep_last}
use Rattle.block_names.specs.Held.{Held}
use Rattle.block_names.specs.Growth.{Holds}
use Rattle.guarded_update.specs.declared.request.Request.{Request as Asking}
use Rattle.guarded_update.specs.declared.update.Update.{Update}
use Rattle.guarded_update.specs.Spelling.{request_string}
use Rattle.tree_format.specs.Strings.{label_string}
use Rattle.ring_model.specs.Messages.{Ring, Packet, Client as client}
use Rattle.ring_model.specs.World as model
use Rattle.ring_model.specs.World.{World as Model, world, IsLegal, MayHappen, between}
use Rattle.message_model.specs.Meaning.{who, meaning}
use Rattle.message_model.specs.Requests.{request_at}
use Rattle.message_model.specs.Reading.{IsRingOf}
use Rattle.client_core.specs.declared.client.Client.{Client}
use Rattle.client_core.specs.Clients.{ClientStands, texts_of}
use Rattle.ring_model.specs.Places.{Place}
use Rattle.ring_mail.specs.Mails.{IsMail}
use Rattle.ring_world.specs.declared.event.Event.{Event}
use Rattle.ring_world.specs.declared.event.Event.TheVariants.{Submit, Resubmit, Deliver, Forge}
use Rattle.ring_world.specs.declared.state.World.{World}
use Rattle.ring_world.specs.Standing.{Standing, Knowing}
use Rattle.ring_world.specs.Crew.{AreMembers, NodesKnown}
use Rattle.ring_model.specs.Deliveries.{deliveries}
use Rattle.message_model.specs.Naming.{named_of}
use Rattle.message_model.specs.Told.{told, counted}

-- a ring within the limits
pub record IsSmall (g : Ring) : Type 0 where
  pub few : g.f ≤ 3
  pub few_clients : g.clients ≤ 16
  pub slots : g.slots ≡ 65536

-- what is kept is this world of the model, with these deliveries
pub record IsWorld {N : Type 0} (stands : Standing N) (g : Ring) (w : World N) (v : Model) (done : List Place) : Type 0 where
  pub small : IsSmall g
  pub mail_is : IsMail w.mail v.sent done
  pub members_are : AreMembers stands g w.members v.got v.archived
  pub client_count : length w.clients.items ≡ g.clients
  pub clients_stand : (c : ℕ) (d : Client) → c < g.clients → ClientStands (slice_index_or w.clients.items c d) g c (filter (λ r. g.owner r == c) v.submits) (v.got (client c))
  pub recent_is : map told w.recent.items ≡ map counted (keep_last 8 done)
  pub eight : w.recent.capacity ≡ 8
  pub going : w.ended ≡ false

-- The world stands for these events, the newest first. An ended world stands for nothing.
pub record WorldStands {N : Type 0} (stands : Standing N) (g : Ring) (w : World N) (events : List model.Event) : Type 0 where
  pub is : IsWorld stands g w (world g events) (deliveries g events)
  pub legal : IsLegal g events

-- a submitted request is held, and so is the string of its label
abbrev pub IsNamed : (List ℕ → List ℕ) → Held → List ℕ → Type 0
IsNamed h held text = Holds h held text × Holds h held (label_string (request_at text).label)

-- the string of the label of each of these requests is held
abbrev pub LabelsHeld : (List ℕ → List ℕ) → Held → List (List ℕ) → Type 0
LabelsHeld h held submits = (text : List ℕ) → Contains submits text → Holds h held (label_string (request_at text).label)

-- what is held has all that the world named: what its nodes named, and each submitted request with the string of its label
pub record IsKnown {N : Type 0} (knows : Knowing N) (h : List ℕ → List ℕ) (held : Held) (w : World N) : Type 0 where
  pub nodes : NodesKnown knows h held w.members
  pub requests : (c : ℕ) (d : Client) → c < length w.clients.items → AllByRecursion (IsNamed h held) (texts_of (slice_index_or w.clients.items c d))

-- the client's next request, of this label and update
abbrev pub next_request : Ring → Model → ℕ → List ℕ → Update → Asking
next_request g v c label update = record { client = record { 0 = c }; number = count_by (λ r. g.owner r == c) v.submits + 1; label = label; update = update }

-- a place counted from 1 is one less where it is counted from 0; place 0 has no message, as the one behind all that were sent
abbrev pub place_in : List Packet → ℕ → ℕ
place_in sent zero = length sent
place_in sent (suc k) = k

-- the event of the model, whose places count from 0
abbrev pub event_of : Ring → Model → Event → model.Event
event_of g v (Submit c label update) = model.Event.Submit (request_string (next_request g v c.0 label update))
event_of g v (Resubmit c n) = model.Event.Resubmit c.0 n
event_of g v (Deliver p q k) = model.Event.Deliver (who p) (who q) (place_in v.sent k)
event_of g v (Forge i q bytes) = model.Event.Forge i.0 (who q) (meaning bytes)

-- the strings that an event names: a submit the label's string and the request, a delivery those of its receiver
abbrev pub strings_of : Ring → Model → Event → List (List ℕ)
strings_of g v (Submit c label update) = label_string label ∷ request_string (next_request g v c.0 label update) ∷ []
strings_of g v (Resubmit c n) = []
strings_of g v (Deliver p q k) = named_of g v (slice_get (between (who p) (who q) v.sent) (place_in v.sent k))
strings_of g v (Forge i q bytes) = []

-- whatever world of the model is kept, a fact holds of it
abbrev pub ForWorld : {N : Type 0} → Standing N → (List ℕ → List ℕ) → World N → (Ring → Model → List Place → Type 0) → Type 0
ForWorld stands h w P = (g : Ring) (v : Model) (done : List Place) → IsRingOf h g → IsWorld stands g w v done → P g v done

-- whatever events the world stands for, a fact holds of them
abbrev pub ForEvents : {N : Type 0} → Standing N → (List ℕ → List ℕ) → World N → (Ring → List model.Event → Type 0) → Type 0
ForEvents stands h w P = (g : Ring) (events : List model.Event) → IsRingOf h g → WorldStands stands g w events → P g events

-- whatever events the world stands for, a fact holds of them where the next one may happen
abbrev pub ForStep : {N : Type 0} → Standing N → (List ℕ → List ℕ) → World N → Event → (Ring → List model.Event → Type 0) → Type 0
ForStep stands h w event P = ForEvents stands h w (λ g events. MayHappen g (world g events) (event_of g (world g events) event) → P g events)

-- there is a node for each correct member of the ring, before any letter, and for no faulty one
pub record IsStart {N : Type 0} (stands : Standing N) (g : Ring) (nodes : List (Option N)) (clients : ℕ) : Type 0 where
  pub small : IsSmall g
  pub count : length nodes ≡ 3 * g.f + 1
  pub there_are : (i : ℕ) (d : Option N) → i < 3 * g.f + 1 → is_some (slice_index_or nodes i d) ≡ not (g.is_faulty i)
  pub nodes_stand : (i : ℕ) (d : Option N) → i < 3 * g.f + 1 → IfSome (slice_index_or nodes i d) (λ node. stands node g i [] 0)
  pub clients_are : clients ≡ g.clients

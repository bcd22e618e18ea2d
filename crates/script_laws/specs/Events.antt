-- The events of the program's world that lines of a script are. A list of lines that came has the newest first. Throughout, h
-- names byte strings.
use Rattle.std.specs.Prelude.{◌≡◌, ◌-◌, ◌==◌, ℕ, Bool, true, false, List, filter, slice_get, Some, Contains}
use Rattle.pond_base.specs.declared.numbers.ClientId.{ClientId}
use Rattle.pond_base.specs.declared.numbers.MemberId.{MemberId}
use Rattle.pond_base.specs.declared.numbers.Party.{Party}
use Rattle.guarded_update.specs.declared.request.Request.{Request}
use Rattle.guarded_update.specs.Fitting.{IsRequest}
use Rattle.guarded_update.specs.Spelling.{request_string}
use Rattle.object_model.specs.Trees.{object_name}
use Rattle.ring_model.specs.Messages.{Ring, Message, PrePrepare, Prepare, Commit, Heart}
use Rattle.ring_model.specs.World.{World}
use Rattle.message_model.specs.Meaning.{meaning}
use Rattle.ring_world.specs.declared.event.Event.{Event}
use Rattle.ring_world.specs.declared.event.Event.TheVariants as event
use Rattle.script_terms.specs.declared.line.Line.{Line}
use Rattle.script_terms.specs.declared.line.Line.TheVariants.{Submit, Resubmit, Deliver, ForgeOrder, ForgePrepare, ForgeCommit, ForgeHeart, ForgeRaw}
use Rattle.script_terms.specs.declared.script.Script.{Script}
use Rattle.script_laws.specs.Limits.{update_of}
use Rattle.text_model.specs.Requests.{Numbered, next_request, submitted}
use Rattle.text_model.specs.Events.{ring_for, world_of, asked_string}

-- a faulty member sends bytes that mean a message
abbrev pub Forges : MemberId → Party → Message → Event → Type 0
Forges member to message e = (bytes : List ℕ) × (e ≡ event.Forge member to bytes) × (meaning bytes ≡ message)

-- the string of a client's request of a number, which earlier lines submit
abbrev pub asked_after : (List ℕ → List ℕ) → Script → List Numbered → ClientId → ℕ → List ℕ
asked_after h script earlier client number = asked_string (ring_for h script) (world_of h script earlier) client number

-- The event is that of a line behind earlier ones. Lines that settle, or that say what is passed over or shown, have none.
abbrev pub IsEventOf : (List ℕ → List ℕ) → Script → List Numbered → Line → Event → Type 0
IsEventOf h script earlier (Submit client label clauses) e =
    (e ≡ event.Submit client label (update_of h clauses)) × IsRequest (next_request h (submitted h earlier) client label clauses)
IsEventOf h script earlier (Resubmit client number) e = e ≡ event.Resubmit client number
IsEventOf h script earlier (Deliver sender to place) e = e ≡ event.Deliver sender to place
IsEventOf h script earlier (ForgeOrder member to seq client number) e = Forges member to (PrePrepare seq.0 (asked_after h script earlier client number)) e
IsEventOf h script earlier (ForgePrepare member to seq client number) e = Forges member to (Prepare seq.0 (h (asked_after h script earlier client number))) e
IsEventOf h script earlier (ForgeCommit member to seq client number) e = Forges member to (Commit seq.0 (h (asked_after h script earlier client number))) e
IsEventOf h script earlier (ForgeHeart member to label version name) e = Forges member to (Heart (object_name h label) version.0 name) e
IsEventOf h script earlier (ForgeRaw member to content) e = e ≡ event.Forge member to content
IsEventOf h script earlier line e = ⊥

-- a line submits a request
abbrev pub is_submit : Line → Bool
is_submit (Submit client label clauses) = true
is_submit line = false

-- what a line submits after earlier ones is a request
abbrev pub SubmitsARequest : (List ℕ → List ℕ) → List Numbered → Line → Type 0
SubmitsARequest h earlier (Submit client label clauses) = IsRequest (next_request h (submitted h earlier) client label clauses)
SubmitsARequest h earlier line = Unit {0}

-- a string is that of a request
pub record IsSpelled (string : List ℕ) : Type 0 where
  pub request : Request
  pub is : IsRequest request
  pub spelled : string ≡ request_string request

-- a world has a string as a client's request of a number, and it is that of a request
pub record IsAsked (g : Ring) (w : World) (client : ClientId) (number : ℕ) (string : List ℕ) : Type 0 where
  pub at : slice_get (filter (λ text. g.owner text == client.0) w.submits) (number - 1) ≡ Some string
  pub asked : asked_string g w client number ≡ string
  pub among : Contains w.submits string
  pub spelled : IsSpelled string

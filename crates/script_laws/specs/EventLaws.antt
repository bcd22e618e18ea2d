-- What is claimed of the events that lines of a script are. A list of lines that came has the newest first, and so has a list of
-- requests. Throughout, h names byte strings.
use Rattle.std.specs.Prelude.{◌≡◌, ◌==◌, ℕ, false, List, ◌∷◌, map, reverse, count_by}
use Rattle.std.specs.List.{AllByRecursion}
use Rattle.pond_base.specs.declared.numbers.ClientId.{ClientId}
use Rattle.guarded_update.specs.Fitting.{IsRequest}
use Rattle.guarded_update.specs.Spelling.{request_string}
use Rattle.guarded_update.specs.declared.setup.Setup.{Setup}
use Rattle.ring_model.specs.Messages.{FewFaulty}
use Rattle.message_model.specs.Reading.{IsRingOf}
use Rattle.ring_world.specs.declared.event.Event.{Event}
use Rattle.ring_world.specs.Worlds.{IsSmall, event_of}
use Rattle.pond_world.specs.Coming.{MayCome}
use Rattle.pond_world.specs.Setups.{IsSetup, ring_by}
use Rattle.script_terms.specs.declared.script.Script.{Script}
use Rattle.script_laws.specs.Limits.{HasSent, LineFits, SetupFits}
use Rattle.text_model.specs.Requests.{Numbered, count_of, submitted}
use Rattle.text_model.specs.Events.{no_archives, ring_for, events_of, world_of}
use Rattle.script_laws.specs.Events.{IsAsked, IsEventOf, SubmitsARequest, is_submit}

-- lines submit requests that have a spelling
abbrev pub AreRequests : (List ℕ → List ℕ) → List Numbered → Type 0
AreRequests h lines = AllByRecursion IsRequest (submitted h lines)

-- A setup within the limits of scripts is one within those of a world.
abbrev pub SetupsJoin : Type 0
SetupsJoin = (setup : Setup) → SetupFits setup → IsSetup setup

-- The ring of a script is that of its setup.
abbrev pub RingsJoin : Type 0
RingsJoin = (h : List ℕ → List ℕ) (script : Script) → ring_for h script ≡ ring_by h script.setup no_archives

-- It reads requests as the grammar does, few of its members are faulty, and it is small.
abbrev pub RingIsSound : Type 0
RingIsSound = (h : List ℕ → List ℕ) (script : Script) → SetupFits script.setup → IsRingOf h (ring_for h script) × FewFaulty (ring_for h script) × IsSmall (ring_for h script)

-- What is submitted after lines are the strings of the requests that they submit, the oldest first.
abbrev pub SubmitsAreRequests : Type 0
SubmitsAreRequests = (h : List ℕ → List ℕ) (script : Script) (lines : List Numbered) → (world_of h script lines).submits ≡ map request_string (reverse (submitted h lines))

-- So many of them are of a client as it has submitted requests.
abbrev pub CountsJoin : Type 0
CountsJoin = (h : List ℕ → List ℕ) (script : Script) (lines : List Numbered) → AreRequests h lines
    → (client : ClientId) → count_by (λ text. (ring_for h script).owner text == client.0) (world_of h script lines).submits ≡ count_of client (submitted h lines)

-- A request that earlier lines submit is among what is submitted, at its place among its client's.
abbrev pub AskedIsThere : Type 0
AskedIsThere = (h : List ℕ → List ℕ) (script : Script) (earlier : List Numbered) (client : ClientId) (number : ℕ) → HasSent script.setup earlier client number → AreRequests h earlier
    → (string : List ℕ) × IsAsked (ring_for h script) (world_of h script earlier) client number string

-- A line that is no submit leaves the requests as they are.
abbrev pub OthersSubmitNone : Type 0
OthersSubmitNone = (h : List ℕ → List ℕ) (earlier : List Numbered) (line : Numbered) → is_submit line.1 ≡ false → submitted h (line ∷ earlier) ≡ submitted h earlier

-- What lines submit stays requests, where what the next one submits is one.
abbrev pub OneRequestALine : Type 0
OneRequestALine = (h : List ℕ → List ℕ) (earlier : List Numbered) (line : Numbered) → SubmitsARequest h earlier line.1 → AreRequests h earlier → AreRequests h (line ∷ earlier)

-- The event of a line that is within its limits may come, and it is what the line adds to the events of the ring.
abbrev pub EventsComeOfLines : Type 0
EventsComeOfLines = (h : List ℕ → List ℕ) (script : Script) (earlier : List Numbered) (line : Numbered) (e : Event)
    → SetupFits script.setup → LineFits script.setup earlier line.1 → AreRequests h earlier → IsEventOf h script earlier line.1 e
    → MayCome (ring_for h script) (world_of h script earlier) e
    × (events_of h script (line ∷ earlier) ≡ event_of (ring_for h script) (world_of h script earlier) e ∷ events_of h script earlier)

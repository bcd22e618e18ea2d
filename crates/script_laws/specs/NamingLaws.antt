-- What is claimed of the strings that deliveries name. Lists of lines, events and requests have the newest first.
use Rattle.std.specs.Prelude.{◌≡◌, ◌≤◌, ℕ, Bool, List, ◌∷◌, ◌++◌, map, reverse, Contains, None}
use Rattle.std.specs.List.{AllByRecursion, list_any}
use Rattle.pond_base.specs.declared.numbers.Party.{Party}
use Rattle.guarded_update.specs.Fitting.{IsRequest}
use Rattle.guarded_update.specs.Spelling.{request_string}
use Rattle.ring_model.specs.Messages.{Ring, Party as Who, Member, FewFaulty, same_party}
use Rattle.ring_model.specs.Member.{executed}
use Rattle.ring_model.specs.World.{Event, world, IsLegal, chosen}
use Rattle.ring_model.specs.Laws.{NoClash, IsCorrect}
use Rattle.message_model.specs.Meaning.{who}
use Rattle.fold_model.specs.Folds.{requests_of}
use Rattle.ring_model.specs.Places.{Place}
use Rattle.ring_world.specs.declared.event.Event.TheVariants as happening
use Rattle.ring_mail.specs.Skips.{Skips, is_skipped}
use Rattle.message_model.specs.Told.{Told, stands_at}
use Rattle.ring_model.specs.Deliveries.{pending, settled}
use Rattle.message_model.specs.Naming.{named_along}
use Rattle.ring_world.specs.Worlds.{strings_of}
use Rattle.script_terms.specs.declared.line.Line.TheVariants.{Deliver, Settle}
use Rattle.script_terms.specs.declared.script.Script.{Script}
use Rattle.script_laws.specs.Limits.{SetupFits}
use Rattle.text_model.specs.Requests.{Numbered, submitted}
use Rattle.text_model.specs.Events.{ring_for, muted, lost, is_passed, settled_by, most_messages, events_of, world_of}
use Rattle.text_model.specs.Named.{executed_strings, named}

-- ---- settles

-- The settle of a script goes through the first n deliveries of what is pending, whatever n is.
abbrev pub SettledIsReached : Type 0
SettledIsReached = (g : Ring) (passed : Place → Bool) (events : List Event) (n : ℕ) → n ≤ most_messages
    → (late : List Event) × (settled_by g passed most_messages events ≡ late ++ (settled g passed events n ++ events))

-- Where nothing is pending after them, they are all of it.
abbrev pub SettledJoins : Type 0
SettledJoins = (g : Ring) (passed : Place → Bool) (events : List Event) (n : ℕ) → n ≤ most_messages → pending g passed (settled g passed events n ++ events) ≡ None
    → settled_by g passed most_messages events ≡ settled g passed events n ++ events

-- whether a party is one of these
abbrev pub muted_in : List Party → Who → Bool
muted_in parties p = list_any (λ q. same_party (who q) p) parties

-- whether one of these messages stands at a place
abbrev pub lost_in : List Told → Place → Bool
lost_in told place = list_any (stands_at place) told

-- With the same muted parties and lost messages, a world skips what a script passes over.
abbrev pub SkipsJoin : Type 0
SkipsJoin = (skips : Skips) (lines : List Numbered) → skips.muted ≡ muted_in (muted lines) → skips.lost ≡ lost_in (lost lines) → is_skipped skips ≡ is_passed lines

-- ---- strings

-- what the ring was asked for after some lines of a script is what these lines submit: requests that have spellings
pub record AreOfLines (h : List ℕ → List ℕ) (script : Script) (earlier : List Numbered) : Type 0 where
  pub submits : (world_of h script earlier).submits ≡ map request_string (reverse (submitted h earlier))
  pub requests : AllByRecursion IsRequest (submitted h earlier)
  pub among : AllByRecursion (Contains script.lines) earlier

-- What the receiver of a delivered message names is named by the lines up to the delivery.
abbrev pub DeliveriesAreNamed : Type 0
DeliveriesAreNamed = (h : List ℕ → List ℕ) (script : Script) (earlier : List Numbered) (line : Numbered) (sender to : Party) (place : ℕ) (string : List ℕ)
    → line.1 ≡ Deliver sender to place → SetupFits script.setup → AreOfLines h script earlier
    → IsLegal (ring_for h script) (events_of h script (line ∷ earlier)) → NoClash (ring_for h script) (world_of h script (line ∷ earlier)).submits
    → Contains (strings_of (ring_for h script) (world_of h script earlier) (happening.Deliver sender to place)) string
    → Contains (named h script (line ∷ earlier)) string

-- What the first n deliveries of a settle name is named by the lines up to the settle.
abbrev pub SettlesAreNamed : Type 0
SettlesAreNamed = (h : List ℕ → List ℕ) (script : Script) (earlier : List Numbered) (line : Numbered) (n : ℕ) (string : List ℕ)
    → line.1 ≡ Settle → n ≤ most_messages → SetupFits script.setup → AreOfLines h script earlier
    → IsLegal (ring_for h script) (events_of h script earlier) → NoClash (ring_for h script) (world_of h script earlier).submits
    → Contains (named_along (ring_for h script) (events_of h script earlier) (settled (ring_for h script) (is_passed earlier) (events_of h script earlier) n)) string
    → Contains (named h script (line ∷ earlier)) string

-- The strings of the versions that a correct member made are strings of versions that the committed list makes.
abbrev pub ExecutedAreNamed : Type 0
ExecutedAreNamed = (h : List ℕ → List ℕ) (block : ℕ) (g : Ring) → FewFaulty g → (events : List Event) → IsLegal g events → NoClash g (world g events).submits
    → (i : ℕ) → IsCorrect g i → (string : List ℕ)
    → Contains (executed_strings h block (requests_of (executed g ((world g events).got (Member i))))) string
    → Contains (executed_strings h block (requests_of (chosen g (world g events)))) string

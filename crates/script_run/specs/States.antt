-- What the state of a run stands for. Lists of lines have the newest first. Throughout, h names byte strings.
use Rattle.std.specs.Prelude.{◌≡◌, ◌+◌, ℕ, List, reverse, take, slice_get, Some}
use Rattle.std.specs.List.{AllByRecursion}
use Rattle.guarded_update.specs.Fitting.{IsRequest}
use Rattle.pond_base.specs.declared.numbers.MemberId.{MemberId}
use Rattle.pond_base.specs.declared.numbers.Party.{Party}
use Rattle.ring_message.specs.declared.message.Message.{Message}
use Rattle.ring_message.specs.Grammar.{MessageFits}
use Rattle.ring_model.specs.Messages as model
use Rattle.ring_model.specs.World.{World}
use Rattle.object_model.specs.Trees.{object_name}
use Rattle.message_model.specs.Meaning.{said}
use Rattle.pond_node.specs.Standing.{NodeStands}
use Rattle.ring_world.specs.declared.event.Event.{Event}
use Rattle.ring_world.specs.declared.event.Event.TheVariants as wevent
use Rattle.ring_mail.specs.Skips.{Skips}
use Rattle.ring_world.specs.Worlds.{WorldStands}
use Rattle.pond_world.specs.Sites.{SiteView}
use Rattle.script_terms.specs.declared.line.Line.{Line}
use Rattle.script_terms.specs.declared.line.Line.TheVariants.{ForgeOrder, ForgePrepare, ForgeCommit, ForgeHeart}
use Rattle.script_terms.specs.declared.line.Spot.{Spot}
use Rattle.script_terms.specs.declared.script.Script.{Script}
use Rattle.script_laws.specs.Limits.{IsWithin}
use Rattle.script_requests.specs.Holding.{HoldsJust}
use Rattle.script_laws.specs.Events.{IsEventOf}
use Rattle.script_laws.specs.NamingLaws.{muted_in, lost_in}
use Rattle.text_model.specs.Events.{ring_for, world_of, asked_string}
use Rattle.text_model.specs.Requests.{Numbered}
use Rattle.text_model.specs.State.{state_after}
use Rattle.text_model.specs.Text.{line_text}

-- Some lines of a script were run: part by part, the book, the world, what it passes over and what was submitted are what the lines leave. What they leave outside the ring is `IsOutside`.
pub record StandsFor (h : List ℕ → List ℕ) (script : Script) (lines : List Numbered) (site : SiteView) (skips : Skips) : Type 0 where
  pub holds : HoldsJust h site.held (state_after h script lines).named
  pub stands : WorldStands NodeStands (ring_for h script) site.world (state_after h script lines).events
  pub muted_are : skips.muted ≡ muted_in (state_after h script lines).muted
  pub lost_are : skips.lost ≡ lost_in (state_after h script lines).lost
  pub requests : AllByRecursion IsRequest (state_after h script lines).requests

-- the lines before a place
abbrev pub lines_before : Script → ℕ → List Numbered
lines_before script at = reverse (take at script.lines)

-- these places are cut after the lines before a place
abbrev pub IsOutside : (List ℕ → List ℕ) → Script → ℕ → List Spot → Type 0
IsOutside h script at spots = spots ≡ (state_after h script (lines_before script at)).cut

-- the lines before a place were run, and there stands this line
pub record IsTurn (h : List ℕ → List ℕ) (script : Script) (at : ℕ) (line : Line) (site : SiteView) (skips : Skips) : Type 0 where
  pub within : IsWithin script
  pub number : ℕ
  pub here : slice_get script.lines at ≡ Some (number, line)
  pub stands : StandsFor h script (lines_before script at) site skips

-- the line that comes is this event of the world
pub record IsComing (h : List ℕ → List ℕ) (script : Script) (at : ℕ) (event : Event) (site : SiteView) (skips : Skips) : Type 0 where
  pub line : Line
  pub turn : IsTurn h script at line site skips
  pub is_event : IsEventOf h script (lines_before script at) line event

-- a line has a faulty member send this message, where the world is this one
abbrev pub Forges : (List ℕ → List ℕ) → model.Ring → World → Line → MemberId → Party → model.Message → Type 0
Forges h g w (ForgeOrder by whom seq client number) member to message = (by ≡ member) × (whom ≡ to) × (message ≡ model.PrePrepare seq.0 (asked_string g w client number))
Forges h g w (ForgePrepare by whom seq client number) member to message = (by ≡ member) × (whom ≡ to) × (message ≡ model.Prepare seq.0 (h (asked_string g w client number)))
Forges h g w (ForgeCommit by whom seq client number) member to message = (by ≡ member) × (whom ≡ to) × (message ≡ model.Commit seq.0 (h (asked_string g w client number)))
Forges h g w (ForgeHeart by whom label version name) member to message = (by ≡ member) × (whom ≡ to) × (message ≡ model.Heart (object_name h label) version.0 name)
Forges h g w line member to message = ⊥

-- the line that comes has a faulty member send this message, which has a spelling
pub record IsForgery (h : List ℕ → List ℕ) (script : Script) (at : ℕ) (member : MemberId) (to : Party) (message : Message) (site : SiteView) (skips : Skips) : Type 0 where
  pub line : Line
  pub turn : IsTurn h script at line site skips
  pub forges : Forges h (ring_for h script) (world_of h script (lines_before script at)) line member to (said message)
  pub fits : MessageFits message

-- what is left after a line is left in the same way after the next one
abbrev pub StandsNext : (List ℕ → List ℕ) → Script → ℕ → SiteView → Skips → Type 0
StandsNext h script at site skips = StandsFor h script (lines_before script (at + 1)) site skips

-- what the line at a place prints
abbrev pub PrintsAt : (List ℕ → List ℕ) → Script → ℕ → List ℕ → Type 0
PrintsAt h script at printed = (line : Numbered) → slice_get script.lines at ≡ Some line → printed ≡ line_text h script (lines_before script at) line.1

-- an event that names nothing
abbrev pub IsQuiet : Event → Type 0
IsQuiet (wevent.Submit client label update) = ⊥
IsQuiet (wevent.Resubmit client number) = Unit {0}
IsQuiet (wevent.Deliver from to place) = ⊥
IsQuiet (wevent.Forge member to bytes) = Unit {0}

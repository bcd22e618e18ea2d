-- The event that comes.
use Rattle.std.proofs.Common.{◌≡◌, ◌+◌, ℕ, List, ◌∷◌, ◌∙◌, ap}
use Rattle.pond_world.specs.Coming.{EventsMayCome}
use Rattle.pond_world.specs.Sites.{SiteView}
use Rattle.ring_model.specs.World.{MayHappen}
use Rattle.ring_world.specs.declared.event.Event.{Event}
use Rattle.ring_mail.specs.Skips.{Skips}
use Rattle.ring_world.specs.Conditions.{MayStep}
use Rattle.ring_world.specs.Worlds.{event_of}
use Rattle.script_laws.specs.EventLaws.{RingIsSound, EventsComeOfLines}
use Rattle.script_laws.specs.Turns.{LinesFitInTurn}
use Rattle.script_terms.specs.declared.line.Line.{Line}
use Rattle.script_terms.specs.declared.script.Script.{Script}
use Rattle.text_model.specs.Events.{ring_for, events_of, world_of}
use Rattle.script_run.specs.States.{IsTurn, IsComing, lines_before}
use Rattle.script_run.proofs.Turns.{lines_more, turn_fits}

-- the event may come in the world, and it is what the line adds to the events
pub record Comes (h : List ℕ → List ℕ) (script : Script) (at number : ℕ) (line : Line) (event : Event) : Type 0 where
  pub may_step : MayStep (ring_for h script) (world_of h script (lines_before script at)) event
  pub may_happen : MayHappen (ring_for h script) (world_of h script (lines_before script at)) (event_of (ring_for h script) (world_of h script (lines_before script at)) event)
  pub events : events_of h script ((number, line) ∷ lines_before script at) ≡ event_of (ring_for h script) (world_of h script (lines_before script at)) event ∷ events_of h script (lines_before script at)

pub comes : LinesFitInTurn → EventsComeOfLines → EventsMayCome → RingIsSound → (h : List ℕ → List ℕ) (script : Script) (at : ℕ) (event : Event) (site : SiteView) (skips : Skips) → (coming : IsComing h script at event site skips)
    → Comes h script at coming.turn.number coming.line event
comes fit come may sound h script at event site skips coming =
    let turn = coming.turn in
    let earlier = lines_before script at in
    let ring = sound h script turn.within.setup in
    let found = come h script earlier (turn.number, coming.line) event turn.within.setup (turn_fits fit h script at coming.line site skips turn) turn.stands.requests coming.is_event in
    let both = may h (ring_for h script) (events_of h script earlier) event ring.0 ring.2 turn.stands.stands.legal found.0 in
    record { may_step = both.0; may_happen = both.1; events = found.1 }

-- the events after the line at a place are those after one line more
pub events_next : (h : List ℕ → List ℕ) (script : Script) (at : ℕ) (line : Line) (event : Event) (site : SiteView) (skips : Skips) → (turn : IsTurn h script at line site skips) → Comes h script at turn.number line event
    → events_of h script (lines_before script (at + 1)) ≡ event_of (ring_for h script) (world_of h script (lines_before script at)) event ∷ events_of h script (lines_before script at)
events_next h script at line event site skips turn comes = ap (events_of h script) (lines_more script at (turn.number, line) turn.here) ∙ comes.events

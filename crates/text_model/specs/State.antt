-- What lines of a script leave: one record, of which each part is a fold of the lines by those of them that change it.
use Rattle.std.specs.Prelude.{ℕ, List}
use Rattle.guarded_update.specs.declared.request.Request.{Request}
use Rattle.message_model.specs.Told.{Told}
use Rattle.pond_base.specs.declared.numbers.Party.{Party}
use Rattle.ring_model.specs.World.{Event}
use Rattle.script_terms.specs.declared.line.Spot.{Spot}
use Rattle.script_terms.specs.declared.script.Script.{Script}
use Rattle.text_model.specs.Events.{events_of, lost, muted}
use Rattle.text_model.specs.Named.{named}
use Rattle.text_model.specs.Outside.{cut}
use Rattle.text_model.specs.Requests.{Numbered, submitted}

-- Lists of events and of requests have the newest first.
pub record State : Type 0 where
  -- all strings that were named
  pub named : List (List ℕ)
  -- the requests that were submitted, and the events of the ring
  pub requests : List Request
  pub events : List Event
  -- what a settle passes over
  pub muted : List Party
  pub lost : List Told
  -- the places that are cut
  pub cut : List Spot

-- what some lines leave
abbrev pub state_after : (List ℕ → List ℕ) → Script → List Numbered → State
state_after h script lines = record {
  named = named h script lines;
  requests = submitted h lines;
  events = events_of h script lines;
  muted = muted lines;
  lost = lost lines;
  cut = cut lines;
}

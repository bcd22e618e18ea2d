-- Which events may come next.
use Rattle.std.specs.Prelude.{◌≡◌, ℕ, ◌<◌, ◌≤◌, ◌==◌, true, List, length, count_by}
use Rattle.guarded_update.specs.Fitting.{IsRequest}
use Rattle.ring_model.specs.Messages.{Ring, Member as member}
use Rattle.ring_model.specs.World as model
use Rattle.ring_model.specs.World.{World as Model, world, IsParty, IsLegal, MayHappen}
use Rattle.message_model.specs.Meaning.{who}
use Rattle.message_model.specs.Reading.{IsRingOf}
use Rattle.ring_world.specs.declared.event.Event.{Event}
use Rattle.ring_world.specs.declared.event.Event.TheVariants.{Submit, Resubmit, Deliver, Forge}
use Rattle.ring_world.specs.Conditions.{MayStep}
use Rattle.ring_world.specs.Worlds.{IsSmall, event_of, next_request}

-- clients and parties are declared and a forger is faulty, there is room for a request, which is within the limits, and a resubmitted number was submitted
abbrev pub MayCome : Ring → Model → Event → Type 0
MayCome g v (Submit c label update) = (c.0 < g.clients) × (length v.submits < g.slots) × IsRequest (next_request g v c.0 label update)
MayCome g v (Resubmit c n) = (c.0 < g.clients) × (0 < n) × (n ≤ count_by (λ r. g.owner r == c.0) v.submits)
MayCome g v (Deliver p q k) = IsParty g (who p) × IsParty g (who q)
MayCome g v (Forge i q bytes) = (g.is_faulty i.0 ≡ true) × IsParty g (member i.0) × IsParty g (who q)

-- such an event may come in the model, and a world that stands for the events so far may do it
abbrev pub EventsMayCome : Type 0
EventsMayCome = (h : List ℕ → List ℕ) (g : Ring) (events : List model.Event) (event : Event) → IsRingOf h g → IsSmall g → IsLegal g events → MayCome g (world g events) event
    → MayStep g (world g events) event × MayHappen g (world g events) (event_of g (world g events) event)

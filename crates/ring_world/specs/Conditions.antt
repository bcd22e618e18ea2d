-- What a caller that keeps the list of events sees to.
use Rattle.std.specs.Prelude.{◌<◌, ◌≤◌, ◌==◌, length, count_by, IsTrue}
use Rattle.std.specs.List.{AllByRecursion}
use Rattle.pond_base.specs.Label.{is_label}
use Rattle.guarded_update.specs.Fitting.{IsClause, update_fits}
use Rattle.ring_model.specs.Messages.{Ring, Member as member}
use Rattle.ring_model.specs.World.{World as Model, IsParty}
use Rattle.message_model.specs.Meaning.{who}
use Rattle.ring_world.specs.declared.event.Event.{Event}
use Rattle.ring_world.specs.declared.event.Event.TheVariants.{Submit, Resubmit, Deliver, Forge}

-- by the events so far, a client is declared and has a number left, a number was submitted, and parties are declared
abbrev pub MayStep : Ring → Model → Event → Type 0
MayStep g v (Submit c label update) = (c.0 < g.clients) × (length v.submits < 65536) × IsTrue (update_fits update)
MayStep g v (Resubmit c n) = (c.0 < g.clients) × (0 < n) × (n ≤ count_by (λ r. g.owner r == c.0) v.submits)
MayStep g v (Deliver p q k) = IsParty g (who p) × IsParty g (who q)
MayStep g v (Forge i q bytes) = IsParty g (member i.0) × IsParty g (who q)

-- the label and the update of a submit have what the spelling of a request asks of them, whatever its number
abbrev pub FitsPlaces : Event → Type 0
FitsPlaces (Submit c label update) = IsTrue (is_label label) × AllByRecursion IsClause update.clauses
FitsPlaces (Resubmit c n) = Unit {0}
FitsPlaces (Deliver p q k) = Unit {0}
FitsPlaces (Forge i q bytes) = Unit {0}

-- How many messages there may be.
use Rattle.std.specs.Prelude.{◌<◌, ◌≤◌, Bool, true, false, List, length, count_by}
use Rattle.ring_model.specs.Messages.{Ring}
use Rattle.ring_model.specs.World.{Event, Submit, Resubmit, Deliver, Forge, Archive, world, IsLegal}
use Rattle.ring_world.specs.Worlds.{IsSmall}

-- resubmits, forgeries and archive turns, which may be repeated
abbrev pub is_other : Event → Bool
is_other (Submit r) = false
is_other (Resubmit c n) = true
is_other (Deliver p q k) = false
is_other (Forge i q m) = true
is_other (Archive i) = true

-- Where there are few of these, each place fits in 32 bits.
abbrev pub PlacesFit : Type 0
PlacesFit = (g : Ring) → IsSmall g → (events : List Event) → IsLegal g events → count_by is_other events ≤ 16777216 → length (world g events).sent < 4294967295

-- What was delivered, what is pending, and the deliveries of a settle.
use Rattle.std.specs.Prelude.{ℕ, zero, suc, Bool, List, [], ◌∷◌, ◌++◌, find, Option, Some, None}
use Rattle.ring_model.specs.Messages.{Ring, Packet}
use Rattle.ring_model.specs.World.{Event, Deliver, world}
use Rattle.ring_model.specs.Places.{Place, places, is_due, delivery}

-- what an event adds to the places that were delivered
abbrev pub delivered_by : List Packet → Event → List Place
delivered_by sent (Deliver p q k) = delivery sent (record { from = p; to = q; place = k })
delivered_by sent _ = []

-- the places of all messages that were delivered, in the order of delivery; events stand newest first
abbrev pub deliveries : Ring → List Event → List Place
deliveries g [] = []
deliveries g (e ∷ events) = deliveries g events ++ delivered_by (world g events).sent e

-- the first message, in the order of sending, that was never delivered and is not skipped
abbrev pub pending : Ring → (Place → Bool) → List Event → Option Place
pending g skipped events = find (is_due skipped (deliveries g events)) (places (world g events).sent)

abbrev pub then_deliver : Option Place → List Event → List Event
then_deliver None late = late
then_deliver (Some a) late = Deliver a.from a.to a.place ∷ late

-- the first n deliveries of what is pending, each in its turn, the newest first
abbrev pub settled : Ring → (Place → Bool) → List Event → ℕ → List Event
settled g skipped events zero = []
settled g skipped events (suc n) = then_deliver (pending g skipped (settled g skipped events n ++ events)) (settled g skipped events n)

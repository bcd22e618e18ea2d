-- The strings that members name as their letters grow.
use Rattle.std.specs.Prelude.{ℕ, suc, ◌-◌, ◌<◌, ◌^◌, Bool, cond, List, [], ◌∷◌, ◌++◌, length, map, take, slice_get, unwrap_or, Option, Some, None, Contains}
use Rattle.std.specs.List.{flat_map, range_with_len}
use Rattle.ring_model.specs.Messages.{Ring, Letter, Party, Member, Client, Packet}
use Rattle.ring_model.specs.Member.{executed}
use Rattle.ring_model.specs.World.{World, Event, Deliver, Archive, world, between}
use Rattle.ring_model.specs.Places.{Place}
use Rattle.ring_model.specs.Deliveries.{settled}
use Rattle.message_model.specs.Reading.{asked_in}

-- the lists of requests that a member newly executed, each with one request more than the one before
abbrev pub newly_executed : Ring → List Letter → List Letter → List (List (List ℕ))
newly_executed g older got =
    map (λ count. take count (executed g got)) (range_with_len (suc (length (executed g older))) (length (executed g got) - length (executed g older)))

-- the strings of what a member newly executed
abbrev pub strings_executed : Ring → List Letter → List Letter → List (List ℕ)
strings_executed g older got = flat_map g.namings (newly_executed g older got)

-- the strings that a member names for one letter more: the request that came from its client, and those of what it then executes
abbrev pub strings_for : Ring → List Letter → Letter → List (List ℕ)
strings_for g older l = asked_in l.from l.message ++ strings_executed g older (l ∷ older)

-- the strings that a party names for a letter more: clients and faulty members name none
abbrev pub named_for : Ring → Party → List Letter → Letter → List (List ℕ)
named_for g (Member i) got l = cond (g.is_faulty i) [] (strings_for g got l)
named_for g (Client c) got l = []

-- the strings that the receiver of a message names, where there is a message
abbrev pub named_of : Ring → World → Option Packet → List (List ℕ)
named_of g v None = []
named_of g v (Some x) = named_for g x.to (v.got x.to) (record { from = x.from; message = x.message })

-- the strings that are named as a member archives the next version that it made, if it has one
abbrev pub named_in_turn : Ring → World → ℕ → List (List ℕ)
named_in_turn g v i = unwrap_or (slice_get (g.turns (executed g (v.got (Member i)))) (v.archived i)) []

-- the strings that members name at a delivery and at an archive turn; those of other events are not told here
abbrev pub named_by : Ring → World → Event → List (List ℕ)
named_by g v (Deliver p q k) = named_of g v (slice_get (between p q v.sent) k)
named_by g v (Archive i) = named_in_turn g v i
named_by g v _ = []

-- the strings that later events name after some events, in order
abbrev pub named_along : Ring → List Event → List Event → List (List ℕ)
named_along g events [] = []
named_along g events (e ∷ late) = named_along g events late ++ named_by g (world g (late ++ events)) e

-- a string that the deliveries of a settle name, however many are done; their count fits in 32 bits
abbrev pub IsNamedIn : Ring → (Place → Bool) → List Event → List ℕ → Type 0
IsNamedIn g skipped events string = (n : ℕ) × (n < 2 ^ 32) × Contains (named_along g events (settled g skipped events n)) string

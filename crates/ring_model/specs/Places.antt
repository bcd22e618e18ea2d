-- Where messages stand, and which of them were delivered.
use Rattle.std.specs.Prelude.{ℕ, Bool, not, ◌==◌, ◌&&◌, List, [], ◌∷◌, ◌++◌, length, slice_get, Option, Some, None}
use Rattle.std.specs.List.{list_any}
use Rattle.ring_model.specs.Messages.{Party, Packet, same_party}
use Rattle.ring_model.specs.World.{between}

-- the message at this place, counted from 0, among those from the one to the other
pub record Place : Type 0 where
  pub from : Party
  pub to : Party
  pub place : ℕ

abbrev pub same_place : Place → Place → Bool
same_place a b = same_party a.from b.from && same_party a.to b.to && a.place == b.place

-- the places of messages that come after others
abbrev pub placed : List Packet → List Packet → List Place
placed before [] = []
placed before (x ∷ xs) = record { from = x.from; to = x.to; place = length (between x.from x.to before) } ∷ placed (before ++ x ∷ []) xs

-- the places of all messages, in the order of sending
abbrev pub places : List Packet → List Place
places sent = placed [] sent

-- whether this place was delivered
abbrev pub is_done : List Place → Place → Bool
is_done done a = list_any (λ b. same_place b a) done

-- whether this place was never delivered and is not skipped
abbrev pub is_due : (Place → Bool) → List Place → Place → Bool
is_due skipped done a = not (is_done done a) && not (skipped a)

-- what a delivery adds to the places that were delivered: nothing where there is no such message
abbrev pub delivery : List Packet → Place → List Place
delivery sent a = at (slice_get (between a.from a.to sent) a.place)
  where
    at : Option Packet → List Place
    at None = []
    at (Some x) = a ∷ []

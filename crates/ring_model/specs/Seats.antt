-- The places that a ring has for parties, whatever its size.
use Rattle.std.specs.Prelude.{◌<◌, Bool, nat_lt}
use Rattle.ring_model.specs.Messages.{Party, Member, Client}

-- a party has a seat: there are ten for members and sixteen for clients
abbrev pub IsSeat : Party → Type 0
IsSeat (Member i) = i < 10
IsSeat (Client c) = c < 16

-- the test of it
abbrev pub is_seat : Party → Bool
is_seat (Member i) = nat_lt i 10
is_seat (Client c) = nat_lt c 16

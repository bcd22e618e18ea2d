-- What is owed for executed requests.
use Rattle.std.specs.Prelude.{ℕ, suc, ◌-◌, List, length, map, take}
use Rattle.std.specs.List.{AllByRecursion, range_with_len}
use Rattle.ring_message.specs.declared.message.Out.{Out}
use Rattle.ring_model.specs.Messages.{Packet, Member, Client, Reply}
use Rattle.message_model.specs.Meaning.{who}
use Rattle.ring_model.specs.Seats.{IsSeat}

-- a client's reply from a member
abbrev pub reply_from : ℕ → ℕ → ℕ → List ℕ → Packet
reply_from i client number outcome = record { from = Member i; to = Client client; message = Reply number outcome }

-- each goes to a party that has a seat
abbrev pub AreSeated : List Out → Type 0
AreSeated out = AllByRecursion (λ o. IsSeat (who o.to)) out

-- the prefixes of a list that are longer than so many, each with one entry more than the one before
abbrev pub longer : {X : Type 0} → ℕ → List X → List (List X)
longer done all = map (λ count. take count all) (range_with_len (suc done) (length all - done))

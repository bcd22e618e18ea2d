-- Where a mail keeps messages.
use Rattle.std.specs.Prelude.{ℕ, ◌+◌, ◌*◌, List}
use Rattle.ring_model.specs.Messages.{Party, Member, Client, Packet}
use Rattle.ring_model.specs.Places.{Place}
use Rattle.message_model.specs.Meaning.{who, meaning}
use Rattle.ring_mail.specs.declared.kept.Note.{Note}

-- bytes from the one to the other
abbrev pub packet_of : Party → Party → List ℕ → Packet
packet_of p q bytes = record { from = p; to = q; message = meaning bytes }

-- the number of a party's seat: members have the first ten
abbrev pub seat : Party → ℕ
seat (Member i) = i
seat (Client c) = 10 + c

-- the number of the link from the one party to the other
abbrev pub link_of : Party → Party → ℕ
link_of p q = seat p * 26 + seat q

abbrev pub place_of : Note → Place
place_of n = record { from = who n.from; to = who n.to; place = n.place }

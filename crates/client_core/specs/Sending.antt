-- What a client sends, as the model has it.
use Rattle.std.specs.Prelude.{ℕ, List, map}
use Rattle.std.specs.List.{range_with_len}
use Rattle.ring_message.specs.declared.message.Out.{Out}
use Rattle.ring_model.specs.Messages.{Packet, Member, Client}
use Rattle.message_model.specs.Meaning.{who, meaning}

-- bytes that a client sends
abbrev pub sent : ℕ → Out → Packet
sent c out = record { from = Client c; to = who out.to; message = meaning out.bytes }

-- the same bytes to each of n members
abbrev pub asks : ℕ → ℕ → List ℕ → List Packet
asks n c bytes = map (λ j. record { from = Client c; to = Member j; message = meaning bytes }) (range_with_len 0 n)

-- What a party sends, by its bytes.
use Rattle.ring_message.specs.declared.message.Out.{Out}
use Rattle.ring_model.specs.Messages.{Party, Packet}
use Rattle.message_model.specs.Meaning.{who, meaning}

-- bytes that a party sends
abbrev pub packet_from : Party → Out → Packet
packet_from from out = record { from = from; to = who out.to; message = meaning out.bytes }

-- What bytes mean in the model of agreement: the message that they spell, or Foreign.
use Rattle.std.specs.Prelude.{ℕ, ◌^◌, Bool, true, cond, ◌==◌, ◌&&◌, nat_le, nat_lt, List, length, drop, bytes_eq}
use Rattle.pond_base.specs.declared.numbers.Party.{Party}
use Rattle.pond_base.specs.declared.numbers.Party.TheVariants as party
use Rattle.ring_message.specs.declared.outcome.Outcome.{Outcome}
use Rattle.ring_message.specs.declared.outcome.Outcome.TheVariants.{Made, NoClause, OutOfRange, TooLong, Repeat}
use Rattle.ring_message.specs.declared.message.Message.{Message}
use Rattle.ring_message.specs.declared.message.Message.TheVariants.{Request, PrePrepare, Prepare, Commit, Reply, Heart, Sealed}
use Rattle.ring_message.specs.declared.message.Out.{Out}
use Rattle.ring_message.specs.Spelling.{outcome_string, message_string}
use Rattle.ring_model.specs.Messages as model
use Rattle.message_model.specs.Requests.{byte_at, behind, number_at, name_at, is_request_string}

-- the outcome of a kind, by its fields
abbrev pub outcome_of : ℕ → List ℕ → Outcome
outcome_of kind bytes =
    cond (kind == 1) (Made (record { 0 = number_at bytes }) (drop 4 bytes))
    (cond (kind == 2) NoClause (cond (kind == 3) OutOfRange (cond (kind == 4) TooLong Repeat)))

abbrev pub outcome_at : List ℕ → Outcome
outcome_at bytes = outcome_of (byte_at bytes) (behind bytes)

-- the message of a kind, by its fields
abbrev pub message_of : ℕ → List ℕ → Message
message_of kind bytes =
    cond (kind == 17) (Request bytes)
    (cond (kind == 18) (PrePrepare (record { 0 = number_at bytes }) (drop 4 bytes))
    (cond (kind == 19) (Prepare (record { 0 = number_at bytes }) (drop 4 bytes))
    (cond (kind == 20) (Commit (record { 0 = number_at bytes }) (drop 4 bytes))
    (cond (kind == 21) (Reply (number_at bytes) (outcome_at (drop 4 bytes)))
    (cond (kind == 22) (Heart (name_at bytes) (record { 0 = number_at (drop 20 bytes) }) (drop 4 (drop 20 bytes)))
    (Sealed (name_at bytes) (record { 0 = number_at (drop 20 bytes) }) (drop 4 (drop 20 bytes))))))))

abbrev pub message_at : List ℕ → Message
message_at bytes = message_of (byte_at bytes) (behind bytes)

abbrev pub is_slot : ℕ → Bool
is_slot seq = nat_le 1 seq && nat_le seq 65536

-- a number from 1 on, of four bytes
abbrev pub is_count : ℕ → Bool
is_count n = nat_le 1 n && nat_lt n (2 ^ 32)

abbrev pub is_name : List ℕ → Bool
is_name name = length name == 20

-- whether an outcome is in the grammar
abbrev pub is_outcome : Outcome → Bool
is_outcome (Made version name) = is_count version.0 && is_name name
is_outcome NoClause = true
is_outcome OutOfRange = true
is_outcome TooLong = true
is_outcome Repeat = true

-- whether a message is in the grammar
abbrev pub is_message : Message → Bool
is_message (Request request) = is_request_string request
is_message (PrePrepare seq request) = is_slot seq.0 && is_request_string request
is_message (Prepare seq name) = is_slot seq.0 && is_name name
is_message (Commit seq name) = is_slot seq.0 && is_name name
is_message (Reply number outcome) = is_count number && is_outcome outcome
is_message (Heart object version name) = is_name object && is_count version.0 && is_name name
is_message (Sealed object version manifest) = is_name object && is_count version.0 && is_name manifest

-- a message, as the model has it: requests and outcomes are their strings
abbrev pub said : Message → model.Message
said (Request request) = model.Request request
said (PrePrepare seq request) = model.PrePrepare seq.0 request
said (Prepare seq name) = model.Prepare seq.0 name
said (Commit seq name) = model.Commit seq.0 name
said (Reply number outcome) = model.Reply number (outcome_string outcome)
said (Heart object version name) = model.Heart object version.0 name
said (Sealed object version manifest) = model.Sealed object version.0 manifest

-- whether a message is in the grammar and these bytes spell it
abbrev pub is_spelled : Message → List ℕ → Bool
is_spelled m bytes = is_message m && bytes_eq (message_string m) bytes

-- The message whose fields stand in the bytes, where they spell it.
abbrev pub meaning : List ℕ → model.Message
meaning bytes = cond (is_spelled (message_at bytes) bytes) (said (message_at bytes)) model.Foreign

-- a party, as the model has it
abbrev pub who : Party → model.Party
who (party.Member member) = model.Member member.0
who (party.Client client) = model.Client client.0

-- bytes that were delivered from a party
abbrev pub letter : Party → List ℕ → model.Letter
letter from bytes = record { from = who from; message = meaning bytes }

-- bytes that a member sends
abbrev pub packet : ℕ → Out → model.Packet
packet i out = record { from = model.Member i; to = who out.to; message = meaning out.bytes }

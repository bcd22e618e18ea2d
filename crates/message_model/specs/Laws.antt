-- What is claimed of the meaning of bytes.
use Rattle.std.specs.Prelude.{◌≡◌, ◌⊎◌, List, ℕ, Some}
use Rattle.guarded_update.specs.declared.request.Request.{Request}
use Rattle.guarded_update.specs.Fitting.{IsRequest}
use Rattle.guarded_update.specs.Spelling.{request_string}
use Rattle.ring_message.specs.declared.message.Message.{Message}
use Rattle.ring_message.specs.Grammar.{IsMessage}
use Rattle.ring_message.specs.Spelling.{message_string}
use Rattle.ring_model.specs.Messages.{Foreign}
use Rattle.message_model.specs.Requests.{request_read}
use Rattle.message_model.specs.Meaning.{meaning, said}

-- A request is read from its spelling.
abbrev pub RequestsAreRead : Type 0
RequestsAreRead = (r : Request) → IsRequest r → request_read (request_string r) ≡ Some r

-- Whatever is read is a request, and the bytes are its spelling.
abbrev pub OnlyRequestsAreRead : Type 0
OnlyRequestsAreRead = (bytes : List ℕ) (r : Request) → request_read bytes ≡ Some r → IsRequest r × (bytes ≡ request_string r)

-- The spelling of a message means it.
abbrev pub MessagesAreMeant : Type 0
MessagesAreMeant = (m : Message) → IsMessage m → meaning (message_string m) ≡ said m

-- the bytes spell a message, and mean it
pub record MeansOne (bytes : List ℕ) : Type 0 where
  pub message : Message
  pub is : IsMessage message
  pub spelled : bytes ≡ message_string message
  pub meant : meaning bytes ≡ said message

-- All other bytes are foreign.
abbrev pub OthersAreForeign : Type 0
OthersAreForeign = (bytes : List ℕ) → MeansOne bytes ⊎ (meaning bytes ≡ Foreign)

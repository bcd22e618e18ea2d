-- Which messages are in the grammar.
use Rattle.std.specs.Prelude.{◌≡◌, ◌≤◌, ◌<◌, ◌^◌, List, ℕ, length}
use Rattle.guarded_update.specs.declared.request.Request.{Request as Asked}
use Rattle.guarded_update.specs.Fitting.{IsRequest}
use Rattle.guarded_update.specs.Spelling.{request_string}
use Rattle.ring_message.specs.declared.outcome.Outcome.{Outcome}
use Rattle.ring_message.specs.declared.outcome.Outcome.TheVariants.{Made, NoClause, OutOfRange, TooLong, Repeat}
use Rattle.ring_message.specs.declared.message.Message.{Message}
use Rattle.ring_message.specs.declared.message.Message.TheVariants.{Request, PrePrepare, Prepare, Commit, Reply, Heart, Sealed}

-- the bytes spell a request
abbrev pub IsRequestString : List ℕ → Type 0
IsRequestString bytes = (request : Asked) × IsRequest request × (bytes ≡ request_string request)

-- a slot of the ring's order
abbrev pub IsSlot : ℕ → Type 0
IsSlot seq = (1 ≤ seq) × (seq ≤ 65536)

-- a version that was made has a number from 1 on
abbrev pub OutcomeFits : Outcome → Type 0
OutcomeFits (Made version name) = 1 ≤ version.0
OutcomeFits NoClause = Unit {0}
OutcomeFits OutOfRange = Unit {0}
OutcomeFits TooLong = Unit {0}
OutcomeFits Repeat = Unit {0}

-- slots are in their range, requests are spelled, and numbers of requests and versions count from 1
abbrev pub MessageFits : Message → Type 0
MessageFits (Request request) = IsRequestString request
MessageFits (PrePrepare seq request) = IsSlot seq.0 × IsRequestString request
MessageFits (Prepare seq name) = IsSlot seq.0
MessageFits (Commit seq name) = IsSlot seq.0
MessageFits (Reply count outcome) = (1 ≤ count) × OutcomeFits outcome
MessageFits (Heart object version name) = 1 ≤ version.0
MessageFits (Sealed object version manifest) = 1 ≤ version.0

-- a number of four bytes
abbrev pub IsNumber : ℕ → Type 0
IsNumber n = n < 2 ^ 32

-- a name of 20 bytes
abbrev pub IsName : List ℕ → Type 0
IsName name = length name ≡ 20

-- the number of an outcome's version has four bytes, and its name 20
abbrev pub OutcomeHasPlaces : Outcome → Type 0
OutcomeHasPlaces (Made version name) = IsNumber version.0 × IsName name
OutcomeHasPlaces NoClause = Unit {0}
OutcomeHasPlaces OutOfRange = Unit {0}
OutcomeHasPlaces TooLong = Unit {0}
OutcomeHasPlaces Repeat = Unit {0}

-- the numbers of a message have four bytes, and its names 20
abbrev pub HasPlaces : Message → Type 0
HasPlaces (Request request) = Unit {0}
HasPlaces (PrePrepare seq request) = Unit {0}
HasPlaces (Prepare seq name) = IsName name
HasPlaces (Commit seq name) = IsName name
HasPlaces (Reply count outcome) = IsNumber count × OutcomeHasPlaces outcome
HasPlaces (Heart object version name) = IsName object × IsNumber version.0 × IsName name
HasPlaces (Sealed object version manifest) = IsName object × IsNumber version.0 × IsName manifest

-- a message that carries no request
abbrev pub HasNoRequest : Message → Type 0
HasNoRequest (Request request) = ⊥
HasNoRequest (PrePrepare seq request) = ⊥
HasNoRequest (Prepare seq name) = Unit {0}
HasNoRequest (Commit seq name) = Unit {0}
HasNoRequest (Reply count outcome) = Unit {0}
HasNoRequest (Heart object version name) = Unit {0}
HasNoRequest (Sealed object version manifest) = Unit {0}

-- a message in the grammar
pub record IsMessage (message : Message) : Type 0 where
  pub fits : MessageFits message
  pub places : HasPlaces message

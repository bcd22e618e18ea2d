-- The bytes that spell outcomes and messages. Numbers are big-endian, of four bytes.
use Rattle.std.specs.Prelude.{List, ℕ, [], ◌∷◌, ◌++◌}
use Rattle.guarded_update.specs.Spelling.{number}
use Rattle.ring_message.specs.declared.outcome.Outcome.{Outcome}
use Rattle.ring_message.specs.declared.outcome.Outcome.TheVariants.{Made, NoClause, OutOfRange, TooLong, Repeat}
use Rattle.ring_message.specs.declared.message.Message.{Message}
use Rattle.ring_message.specs.declared.message.Message.TheVariants.{Request, PrePrepare, Prepare, Commit, Reply, Heart, Sealed}

-- an outcome: its kind, and the number and the name of the version that was made
abbrev pub outcome_string : Outcome → List ℕ
outcome_string (Made version name) = 1 ∷ number version.0 ++ name
outcome_string NoClause = 2 ∷ []
outcome_string OutOfRange = 3 ∷ []
outcome_string TooLong = 4 ∷ []
outcome_string Repeat = 5 ∷ []

-- what a version of an object is told with: the object's name, the number, and the name of a root or of a manifest
abbrev pub mark_string : List ℕ → ℕ → List ℕ → List ℕ
mark_string object version name = object ++ number version ++ name

-- a message: its kind, from 11 to 17 in hexadecimal digits, and its fields
abbrev pub message_string : Message → List ℕ
message_string (Request request) = 17 ∷ request
message_string (PrePrepare seq request) = 18 ∷ number seq.0 ++ request
message_string (Prepare seq name) = 19 ∷ number seq.0 ++ name
message_string (Commit seq name) = 20 ∷ number seq.0 ++ name
message_string (Reply count outcome) = 21 ∷ number count ++ outcome_string outcome
message_string (Heart object version name) = 22 ∷ mark_string object version.0 name
message_string (Sealed object version manifest) = 23 ∷ mark_string object version.0 manifest

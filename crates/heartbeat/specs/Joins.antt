-- The votes in letters of members, and what is believed of both.
use Rattle.std.specs.Prelude.{◌≡◌, ℕ, ◌+◌, ◌≤◌, List, Option, Some, None}
use Rattle.std.specs.Option.{option_map}
use Rattle.std.specs.List.{AllByRecursion, filter_map}
use Rattle.ring_model.specs.Messages.{Party, Member, Client, Message, Heart, Sealed, Letter, Mark, Ring}
use Rattle.ring_model.specs.Belief.{believed, beating, sealing, heart_of}
use Rattle.ring_model.specs.World.{IsParty}
use Rattle.pond_base.specs.declared.numbers.Version.{Version}
use Rattle.heartbeat.specs.Votes.{Vote, believed_of, newest_of}

-- the version and the name of its root that a message tells
abbrev pub heart_told : Message → Option Mark
heart_told (Heart object version name) = Some (record { object = object; version = version; name = name })
heart_told _ = None

-- the version and the name of its manifest that a message tells
abbrev pub seal_told : Message → Option Mark
seal_told (Sealed object version name) = Some (record { object = object; version = version; name = name })
seal_told _ = None

-- the vote of a party that tells a mark, if it is a member
abbrev pub vote_from : Party → Option Mark → Option Vote
vote_from (Member j) mark = option_map (λ m. record { member = j; object = m.object; version = m.version; value = m.name }) mark
vote_from (Client c) mark = None

-- the votes in letters
abbrev pub votes_in : (Message → Option Mark) → List Letter → List Vote
votes_in told got = filter_map (λ l. vote_from l.from (told l.message)) got

-- a version of an object with its value, as a mark
abbrev pub marked : List ℕ → Option (Version × List ℕ) → Option Mark
marked object found = option_map (λ p. record { object = object; version = p.0.0; name = p.1 }) found

-- In a ring of at most ten members, the root that is believed of letters from its parties is what is believed of the votes in them.
abbrev pub HeartsJoin : Type 0
HeartsJoin = (g : Ring) (object : List ℕ) (version : ℕ) (got : List Letter) → g.f ≤ 3 → AllByRecursion (λ l. IsParty g l.from) got
    → believed g (beating object version) got ≡ believed_of (g.f + 1) object version (votes_in heart_told got)

-- So is the manifest.
abbrev pub SealsJoin : Type 0
SealsJoin = (g : Ring) (object : List ℕ) (version : ℕ) (got : List Letter) → g.f ≤ 3 → AllByRecursion (λ l. IsParty g l.from) got
    → believed g (sealing object version) got ≡ believed_of (g.f + 1) object version (votes_in seal_told got)

-- And a client's heart of an object is the newest of these votes.
abbrev pub NewestJoins : Type 0
NewestJoins = (g : Ring) (object : List ℕ) (got : List Letter) → g.f ≤ 3 → AllByRecursion (λ l. IsParty g l.from) got
    → heart_of g object got ≡ marked object (newest_of (g.f + 1) object (votes_in heart_told got))

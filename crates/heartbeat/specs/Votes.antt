-- Votes for the values of versions, and what is believed of them. A list of votes has the newest first.
use Rattle.std.specs.Prelude.{ℕ, cond, ◌==◌, ◌&&◌, nat_le, List, [], ◌∷◌, Option, Some, None, bytes_eq}
use Rattle.std.specs.Option.{option_or}
use Rattle.ring_model.specs.History.{passing}
use Rattle.pond_base.specs.declared.numbers.Version.{Version}
use Rattle.quorum.specs.Tallies.{count}

-- a member's vote for the value of a version of an object
pub record Vote : Type 0 where
  pub member : ℕ
  pub object : List ℕ
  pub version : ℕ
  pub value : List ℕ

-- the value that a vote gives to this version of this object
abbrev pub value_for : List ℕ → ℕ → Vote → Option (List ℕ)
value_for object version vote = cond (bytes_eq vote.object object && vote.version == version) (Some vote.value) None

-- what a vote says of a member's value for a version of an object
abbrev pub said_of : List ℕ → ℕ → ℕ → Vote → Option (List ℕ)
said_of object version member vote = cond (vote.member == member) (value_for object version vote) None

-- the value that a member's first vote gives to a version of an object
abbrev pub first_of : List ℕ → ℕ → ℕ → List Vote → Option (List ℕ)
first_of object version member [] = None
first_of object version member (vote ∷ older) = option_or (first_of object version member older) (said_of object version member vote)

-- what is believed once a vote is taken: what was so before, or else the vote's value, if so many have it first by then
abbrev pub believed_then : ℕ → Option (List ℕ) → (ℕ → Option (List ℕ)) → Option (List ℕ) → Option (List ℕ)
believed_then need before first vote = option_or before (passing (λ value. nat_le need (count first value)) vote)

-- the value of a version that so many members have as their first vote, the one that had so many first
abbrev pub believed_of : ℕ → List ℕ → ℕ → List Vote → Option (List ℕ)
believed_of need object version [] = None
believed_of need object version (vote ∷ older) = believed_then need (believed_of need object version older) (λ member. first_of object version member (vote ∷ older)) (value_for object version vote)

-- the later of a version with its value, where there is one, and of another version, where it has one
abbrev pub later_value : Option (Version × List ℕ) → Version → Option (List ℕ) → Option (Version × List ℕ)
later_value before version None = before
later_value None version (Some value) = Some (version, value)
later_value (Some p) version (Some value) = cond (nat_le p.0.0 version.0) (Some (version, value)) (Some p)

-- the latest version of an object that some vote is for and that has a believed value by all votes, with this value
abbrev pub latest_of : ℕ → List ℕ → List Vote → List Vote → Option (Version × List ℕ)
latest_of need object all [] = None
latest_of need object all (vote ∷ votes) = later_value (latest_of need object all votes) (record { 0 = vote.version }) (cond (bytes_eq vote.object object) (believed_of need object vote.version all) None)

-- the greatest version of an object that has a believed value, with this value
abbrev pub newest_of : ℕ → List ℕ → List Vote → Option (Version × List ℕ)
newest_of need object votes = latest_of need object votes votes

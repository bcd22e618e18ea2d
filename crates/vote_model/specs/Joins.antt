-- A window of votes beside the letters that it was made of.
use Rattle.std.specs.Prelude.{◌≡◌, ℕ, ◌<◌, ◌≤◌, List, ◌∷◌, Option}
use Rattle.std.specs.Option.{option_or}
use Rattle.std.specs.List.{AllByRecursion}
use Rattle.ring_model.specs.Messages.{Letter, Message, Ring, Member, Prepare as Prepares, Commit as Commits}
use Rattle.ring_model.specs.History.{first_word, voters}
use Rattle.ring_model.specs.Member.{prepares, commits}
use Rattle.ring_model.specs.World.{IsParty}
use Rattle.quorum.specs.declared.phase.Phase.{Phase}
use Rattle.quorum.specs.declared.phase.Phase.TheVariants.{Prepare, Commit}
use Rattle.quorum.specs.Windows.{Votes, first, said_above}
use Rattle.quorum.specs.Tallies.{count}

-- the name that a message votes for, in a phase and a slot
abbrev pub says : Phase → ℕ → Message → Option (List ℕ)
says Prepare s = prepares s
says Commit s = commits s

-- the letter of a vote
abbrev pub letter : Phase → ℕ → ℕ → List ℕ → Letter
letter Prepare sender slot name = record { from = Member sender; message = Prepares slot name }
letter Commit sender slot name = record { from = Member sender; message = Commits slot name }

-- above the floor, each sender's first vote is its first word among the letters
abbrev pub AgreesWith : Votes → List Letter → Type 0
AgreesWith v got = (p : Phase) (s j : ℕ) → v.floor < s → first v p s j ≡ first_word (Member j) (says p s) got

-- a window that agrees with the letters agrees with one more, after the cast of its vote
abbrev pub CastJoins : Type 0
CastJoins = (v w : Votes) (got : List Letter) (phase : Phase) (slot sender : ℕ) (name : List ℕ)
    → AgreesWith v got → w.floor ≡ v.floor → ((p : Phase) (s j : ℕ) → first w p s j ≡ option_or (first v p s j) (said_above v.floor phase slot sender name p s j))
    → AgreesWith w (letter phase sender slot name ∷ got)

-- the votes for a name above the floor are the members that have it as their first word
abbrev pub CountJoins : Type 0
CountJoins = (g : Ring) (v : Votes) (got : List Letter) (p : Phase) (s : ℕ) (d : List ℕ) → g.f ≤ 3 → AllByRecursion (λ l. IsParty g l.from) got → AgreesWith v got → v.floor < s
    → count (first v p s) d ≡ voters g (says p s) d got

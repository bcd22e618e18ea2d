-- Votes whose values are what is believed of letters.
use Rattle.std.specs.Prelude.{◌≡◌, ℕ, ◌+◌, List}
use Rattle.ring_model.specs.Messages.{Letter, Ring}
use Rattle.ring_model.specs.Belief.{believed, beating, sealing, heart_of}
use Rattle.heartbeat.specs.Votes.{believed_of, newest_of}
use Rattle.heartbeat.specs.Boards.{Board, StandsFor}
use Rattle.heartbeat.specs.Joins.{heart_told, seal_told, votes_in, marked}

-- the board stands for the hearts in letters, whose values are the believed roots, and the newest is the client's heart
pub record HeartsBelieved (board : Board) (g : Ring) (got : List Letter) : Type 0 where
  pub stands : StandsFor (g.f + 1) board (votes_in heart_told got)
  pub values : (object : List ℕ) (version : ℕ) → believed_of (g.f + 1) object version (votes_in heart_told got) ≡ believed g (beating object version) got
  pub newest : (object : List ℕ) → marked object (newest_of (g.f + 1) object (votes_in heart_told got)) ≡ heart_of g object got

-- the board stands for the sealed versions in letters, whose values are the believed manifests
pub record SealsBelieved (board : Board) (g : Ring) (got : List Letter) : Type 0 where
  pub stands : StandsFor (g.f + 1) board (votes_in seal_told got)
  pub values : (object : List ℕ) (version : ℕ) → believed_of (g.f + 1) object version (votes_in seal_told got) ≡ believed g (sealing object version) got

-- The answers of a prepare.
use Rattle.std.specs.Prelude.{ℕ, Bool, true, false}
use Rattle.vote_board.specs.declared.votes.Vote.{Vote}
use Rattle.vote_board.specs.declared.votes.Vote.TheVariants.{Set, Was}

-- whether the vote was set
abbrev pub is_set : Vote → Bool
is_set Set = true
is_set (Was x) = false

-- what stands in the word after a vote for a value
abbrev pub standing_after : ℕ → Vote → ℕ
standing_after value Set = value
standing_after value (Was x) = x

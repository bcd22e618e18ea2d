-- The answers of a commit.
use Rattle.std.specs.Prelude.{ℕ, Bool, true, false, Option, Some, None}
use Rattle.vote_board.specs.declared.votes.CommitVote.{CommitVote}
use Rattle.vote_board.specs.declared.votes.CommitVote.TheVariants.{Set, Was, NotPrepared}

-- whether the vote was set
abbrev pub is_commit_set : CommitVote → Bool
is_commit_set (Set x) = true
is_commit_set (Was x) = false
is_commit_set NotPrepared = false

-- the value that it carries, if one is prepared
abbrev pub carried : CommitVote → Option ℕ
carried (Set x) = Some x
carried (Was x) = Some x
carried NotPrepared = None

-- First votes, and how many senders share one.
use Rattle.std.specs.Prelude.{ℕ, Bool, false, cond, ◌==◌, List, Option, Some, None, count_by, bytes_eq, slice_index_or}
use Rattle.std.specs.List.{range_with_len}

-- the senders of votes, from 0 to 9
unfoldable pub senders : List ℕ
senders = range_with_len 0 10

-- a sender's first vote, where each sender's stands at its place
abbrev pub first_vote : List (Option (List ℕ)) → ℕ → Option (List ℕ)
first_vote votes sender = slice_index_or votes sender None

-- what a vote of one sender says of each
abbrev pub said_by : ℕ → List ℕ → ℕ → Option (List ℕ)
said_by sender name j = cond (sender == j) (Some name) None

-- whether there is a vote, and it is this name
abbrev pub is_name : List ℕ → Option (List ℕ) → Bool
is_name name None = false
is_name name (Some vote) = bytes_eq vote name

-- how many senders have this name as their first vote
abbrev pub count : (ℕ → Option (List ℕ)) → List ℕ → ℕ
count first name = count_by (λ sender. is_name name (first sender)) senders

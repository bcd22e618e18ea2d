-- What is kept of the replies to requests, and the letters that it stands for.
use Rattle.std.specs.Prelude.{◌≡◌, ℕ, List, Option, Some, None, count_by, slice_index_or}
use Rattle.std.specs.Option.{option_map}
use Rattle.std.specs.List.{range_with_len}
use Rattle.std.specs.Ordering.{nat_cmp}
use Rattle.std.specs.Map.{lookup}
use Rattle.std.specs.BTreeMap.{is_at}
use Rattle.ring_model.specs.Messages.{Member, Letter, Ring}
use Rattle.ring_model.specs.History.{first_word, is_name}
use Rattle.ring_model.specs.Belief.{believed, replied}
use Rattle.ring_message.specs.declared.outcome.Outcome.{Outcome}
use Rattle.ring_message.specs.Spelling.{outcome_string}
use Rattle.client_core.specs.declared.entry.Entry.{Entry}

-- a member's first reply, where each member's stands at its place
abbrev pub vote_of : List (Option Outcome) → ℕ → Option Outcome
vote_of votes member = slice_index_or votes member None

-- how many of n members have this string as their first word
abbrev pub count_at : ℕ → (ℕ → Option (List ℕ)) → List ℕ → ℕ
count_at n first string = count_by (λ j. is_name string (first j)) (range_with_len 0 n)

-- what is kept of a request's replies
abbrev pub kept_at : List (ℕ × Entry) → ℕ → Option Entry
kept_at entries number = lookup (is_at (nat_cmp number)) entries

-- the string of a member's first reply to a request of which this is kept
abbrev pub first_at : Option Entry → ℕ → Option (List ℕ)
first_at None member = None
first_at (Some entry) member = option_map outcome_string (vote_of entry.votes member)

-- the accepted outcome of a request of which this is kept
abbrev pub accepted_at : Option Entry → Option Outcome
accepted_at None = None
accepted_at (Some entry) = entry.accepted

-- its string
abbrev pub value_at : Option Entry → Option (List ℕ)
value_at kept = option_map outcome_string (accepted_at kept)

-- Entries stand for the letters of which they keep each member's first reply to each request, and each outcome that is believed.
pub record RepliesStand (g : Ring) (entries : List (ℕ × Entry)) (got : List Letter) : Type 0 where
  pub firsts : (number member : ℕ) → first_at (kept_at entries number) member ≡ first_word (Member member) (replied number) got
  pub values : (number : ℕ) → value_at (kept_at entries number) ≡ believed g (replied number) got

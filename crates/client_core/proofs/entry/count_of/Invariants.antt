use Rattle.std.proofs.Common.{◌≡◌, ◌≤◌}
use Rattle.std.specs.Option.{option_map}
use Rattle.ring_message.specs.Spelling.{outcome_string}
use Rattle.client_core.specs.Replies.{vote_of, count_at}
use Rattle.client_core.proofs.entry.count_of.Given as goal

-- those before this seat are counted
abbrev pub invariant-loop-seat : goal.invariant-loop-seat
invariant-loop-seat l = (l.count ≤ l.seat) × (l.count ≡ count_at l.seat (λ j. option_map outcome_string (vote_of l.votes j)) (outcome_string l.outcome))

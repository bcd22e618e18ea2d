-- The first of the longest executed lists.
use Rattle.std.specs.Prelude.{◌≡◌, ℕ, not, List, [], map, filter, Option, Some, None}
use Rattle.std.specs.List.{range_with_len}
use Rattle.ring_model.specs.Messages.{Ring, Letter, Party, Member as member}
use Rattle.ring_model.specs.Member.{executed}
use Rattle.ring_model.specs.World.{longest}
use Rattle.ring_model.specs.Laws.{IsCorrect}

-- the correct ones of n members from a on
abbrev pub correct_from : Ring → ℕ → ℕ → List ℕ
correct_from g a n = filter (λ i. not (g.is_faulty i)) (range_with_len a n)

-- the best of n members from a on: a correct one whose executed list is the longest of them
abbrev pub IsBest : Ring → (Party → List Letter) → ℕ → ℕ → Option ℕ → Type 0
IsBest g got a n None = correct_from g a n ≡ []
IsBest g got a n (Some k) = IsCorrect g k × (executed g (got (member k)) ≡ longest (map (λ i. executed g (got (member i))) (correct_from g a n)))

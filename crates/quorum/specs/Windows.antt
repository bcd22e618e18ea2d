-- The first votes above a floor, by phase, slot and sender.
use Rattle.std.specs.Prelude.{ℕ, ◌+◌, ◌-◌, ◌^◌, Bool, cond, nat_lt, List, Option, None, count_by, refl}
use Rattle.std.specs.List.{range_with_len}
use Rattle.std.specs.Ordering.{nat_cmp}
use Rattle.std.specs.FinMap as map
use Rattle.std.specs.Coded.{Coded, code_by, coded×, coded_ℕ, coded_list, coded_option}
use Rattle.quorum.specs.declared.phase.Phase.{Phase}
use Rattle.quorum.specs.declared.slot.Slot.{Slot}
use Rattle.quorum.specs.Slots.{first_in, is_voted, said}

-- what is kept of slots
abbrev pub Slots : Type 0
Slots = map.FinMap nat_cmp Slot

-- a floor, and what is kept of the slots above it
pub record Votes : Type 0 where
  pub floor : ℕ
  pub slots : Slots

-- ten first votes are stored as a list
abbrev pub coded_tally : Coded (List (Option (List ℕ)))
coded_tally = coded_list (coded_option (coded_list coded_ℕ))

-- what is kept of a slot is stored as its two tallies
abbrev pub coded_slot : Coded Slot
coded_slot = code_by (List (Option (List ℕ)) × List (Option (List ℕ))) (coded× coded_tally coded_tally) (λ s. (s.prepares, s.commits)) (λ p. record { prepares = p.0; commits = p.1 }) (λ _. refl)

-- a window is stored as its floor and what it keeps
abbrev pub coded_votes : Coded Votes
coded_votes = code_by (ℕ × Slots) (coded× coded_ℕ (map.code coded_ℕ coded_slot)) (λ v. (v.floor, v.slots)) (λ p. record { floor = p.0; slots = p.1 }) (λ _. refl)

-- a sender's first vote of a phase for a slot
abbrev pub first : Votes → Phase → ℕ → ℕ → Option (List ℕ)
first votes phase slot sender = first_in (map.get votes.slots slot) phase sender

-- what a vote says above a floor of each phase, slot and sender
abbrev pub said_above : ℕ → Phase → ℕ → ℕ → List ℕ → Phase → ℕ → ℕ → Option (List ℕ)
said_above floor phase slot sender name p s j = cond (nat_lt floor s) (said phase slot sender name p s j) None

-- whether a slot has a vote
abbrev pub has_vote : Votes → ℕ → Bool
has_vote votes slot = is_voted (λ phase. first votes phase slot)

-- the slots above a floor
unfoldable pub slots_above : ℕ → List ℕ
slots_above floor = range_with_len (floor + 1) (2 ^ 32 - 1 - floor)

-- how many slots above the floor have a vote
abbrev pub kept_of : Votes → ℕ
kept_of votes = count_by (has_vote votes) (slots_above votes.floor)

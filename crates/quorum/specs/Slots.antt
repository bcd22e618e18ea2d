-- The votes for a slot, and the slots that are kept.
use Rattle.std.specs.Prelude.{◌≡◌, ℕ, ◌<◌, ◌^◌, Bool, true, false, cond, ◌==◌, ◌||◌, List, Option, Some, None, is_some}
use Rattle.std.specs.List.{list_any}
use Rattle.std.specs.Ordering.{nat_cmp}
use Rattle.std.specs.Map.{lookup}
use Rattle.std.specs.BTreeMap.{is_at}
use Rattle.quorum.specs.declared.phase.Phase.{Phase}
use Rattle.quorum.specs.declared.phase.Phase.TheVariants.{Prepare, Commit}
use Rattle.quorum.specs.declared.slot.Slot.{Slot}
use Rattle.quorum.specs.Tallies.{senders, first_vote, said_by}

-- whether two phases are one
abbrev pub is_phase : Phase → Phase → Bool
is_phase Prepare Prepare = true
is_phase Commit Commit = true
is_phase _ _ = false

-- a sender's first vote of a phase, if anything is kept of the slot
abbrev pub first_in : Option Slot → Phase → ℕ → Option (List ℕ)
first_in None phase sender = None
first_in (Some slot) Prepare sender = first_vote slot.prepares sender
first_in (Some slot) Commit sender = first_vote slot.commits sender

-- what a vote says of each phase and sender of its slot
abbrev pub said_in : Phase → ℕ → List ℕ → Phase → ℕ → Option (List ℕ)
said_in phase sender name p j = cond (is_phase phase p) (said_by sender name j) None

-- what a vote says of each phase, slot and sender
abbrev pub said : Phase → ℕ → ℕ → List ℕ → Phase → ℕ → ℕ → Option (List ℕ)
said phase slot sender name p s j = cond (is_phase phase p) (cond (sender == j) (cond (slot == s) (Some name) None) None) None

-- whether some sender has a first vote of some phase
abbrev pub is_voted : (Phase → ℕ → Option (List ℕ)) → Bool
is_voted first = list_any (λ sender. is_some (first Prepare sender) || is_some (first Commit sender)) senders

-- what is kept of a slot
abbrev pub kept_at : List (ℕ × Slot) → ℕ → Option Slot
kept_at slots s = lookup (is_at (nat_cmp s)) slots

-- A slot is kept only where it is above the floor and has a vote. Its number has 32 bits.
pub record IsKept (floor : ℕ) (slots : List (ℕ × Slot)) : Type 0 where
  pub above : (s : ℕ) → is_some (kept_at slots s) ≡ true → floor < s
  pub within : (s : ℕ) → is_some (kept_at slots s) ≡ true → s < 2 ^ 32
  pub voted : (s : ℕ) → is_some (kept_at slots s) ≡ is_voted (first_in (kept_at slots s))

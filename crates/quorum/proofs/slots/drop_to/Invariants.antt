use Rattle.std.proofs.Common.{◌≡◌, ℕ, ◌<◌, length}
use Rattle.quorum.specs.Slots.{kept_at}
use Rattle.quorum.proofs.slots.drop_to.Given as goal

-- what is above the floor stays
abbrev pub invariant-loop-seq : goal.invariant-loop-seq
invariant-loop-seq l = (s : ℕ) → l.floor < s → kept_at l.slots.entries s ≡ kept_at l.initial.slots.entries s

abbrev pub decreases-loop-seq : goal.decreases-loop-seq
decreases-loop-seq l = length l.slots.entries

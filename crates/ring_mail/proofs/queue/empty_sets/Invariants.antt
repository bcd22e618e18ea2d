use Rattle.std.proofs.Common.{◌≡◌, [], length, ℕ}
use Rattle.std.specs.List.{AllByRecursion as Each}
use Rattle.std.specs.BTreeSet.{BTreeSet}
use Rattle.ring_mail.proofs.queue.empty_sets.Given as goal

abbrev pub invariant-loop : goal.invariant-loop
invariant-loop l = (length l.sets.items ≡ l.counter) × Each (λ (one : BTreeSet ℕ). one.keys ≡ []) l.sets.items

use Rattle.std.proofs.Common.{◌≡◌, false, length}
use Rattle.std.specs.List.{AllByRecursion as Each}
use Rattle.ring_mail.proofs.kept.Queue.new.Given as goal

abbrev pub invariant-loop : goal.invariant-loop
invariant-loop l = (length l.muted.items ≡ l.counter) × Each (λ b. b ≡ false) l.muted.items

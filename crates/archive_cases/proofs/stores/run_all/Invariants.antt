use Rattle.std.proofs.Common.{◌≡◌, length}
use Rattle.archive_cases.proofs.stores.run_all.Given as goal

abbrev pub invariant-loop-store : goal.invariant-loop-store
invariant-loop-store g l = length l.stores ≡ 3

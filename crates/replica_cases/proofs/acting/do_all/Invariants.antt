use Rattle.std.proofs.Common.{◌≡◌, length}
use Rattle.replica_cases.proofs.acting.do_all.Given as goal

abbrev pub invariant-loop-act : goal.invariant-loop-act
invariant-loop-act g l = length l.case.grove ≡ 5

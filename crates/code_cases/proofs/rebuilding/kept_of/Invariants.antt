use Rattle.std.proofs.Common.{◌≡◌}
use Rattle.code_cases.proofs.rebuilding.kept_of.Given as goal

abbrev pub invariant-loop-a : goal.invariant-loop-a
invariant-loop-a l = l.inverses.code ≡ l.code

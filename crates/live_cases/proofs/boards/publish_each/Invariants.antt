use Rattle.std.proofs.Common.{◌≡◌}
use Rattle.live_cases.proofs.boards.publish_each.Given as goal

abbrev pub invariant-loop-version : goal.invariant-loop-version
invariant-loop-version g l = l.writer.board ≡ l.fn.writer.board

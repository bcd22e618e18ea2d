use Rattle.std.proofs.Common.{◌≡◌}
use Rattle.live_cases.proofs.boards.read_rising.Given as goal

abbrev pub invariant-loop-read : goal.invariant-loop-read
invariant-loop-read l = l.reader.board ≡ l.fn.reader.board

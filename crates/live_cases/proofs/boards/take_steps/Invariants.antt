use Rattle.std.proofs.Common.{◌≡◌}
use Rattle.live_cases.proofs.boards.take_steps.Given as goal

abbrev pub invariant-loop-step : goal.invariant-loop-step
invariant-loop-step g l = l.reader.board ≡ l.writer.board

use Rattle.vote_board.specs.Boards.{IsSeatOf}
use Rattle.live_cases.proofs.votes.walk.Given as goal

abbrev pub invariant-loop-step : goal.invariant-loop-step
invariant-loop-step g l = IsSeatOf l.board l.seat

use Rattle.vote_board.specs.Boards.{IsSeatOf}
use Rattle.live_cases.proofs.votes.cast_all.Given as goal

abbrev pub invariant-loop-member : goal.invariant-loop-member
invariant-loop-member l = IsSeatOf l.board l.seat

abbrev pub invariant-loop-voter : goal.invariant-loop-voter
invariant-loop-voter l = IsSeatOf l.board l.seat

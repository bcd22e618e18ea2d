use Rattle.std.proofs.Common.{arith}
use Rattle.vote_board.proofs.Shown.{none_frequent}
use Rattle.vote_board.proofs.counting.frequent.Goals as goal

pub returns-clause-none : goal.returns-clause-none
returns-clause-none c = none_frequent c.args.found.now c.args.need c.requires (λ k low. c.loop-value.invariant k (omega arith))

use Rattle.std.proofs.Common.{arith}
use Rattle.vote_board.proofs.Allowed.{load_allowed}
use Rattle.vote_board.proofs.board.VoteBoard.load.Goals as goal

pub load-requires : goal.load-requires
load-requires c = (c.requires.seat, omega arith, load_allowed _ _ _ _ _)

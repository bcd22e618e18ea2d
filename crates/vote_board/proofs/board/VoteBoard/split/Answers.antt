use Rattle.std.proofs.Common.{arith}
use Rattle.vote_board.proofs.Allowed.{split_allowed}
use Rattle.vote_board.proofs.board.VoteBoard.split.Goals as goal

pub split_seat-copy-requires : goal.split_seat-copy-requires
split_seat-copy-requires c = (c.requires, omega arith, split_allowed _ _ _)

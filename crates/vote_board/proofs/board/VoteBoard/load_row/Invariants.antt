use Rattle.std.proofs.Common.{◌≡◌}
use Rattle.std.specs.List.{range_with_len}
use Rattle.vote_board.specs.Boards.{view, IsSeatOf}
use Rattle.vote_board.specs.Changes.{LoadsWords, Remembers, ShowsTo}
use Rattle.vote_board.proofs.board.VoteBoard.load_row.Given as goal

abbrev pub invariant-loop-k : goal.invariant-loop-k
invariant-loop-k l = record {
  board : IsSeatOf l.self l.seat;
  shown : ShowsTo (view l.seat) l.from l.found l.k;
  loads : LoadsWords (view l.fn.seat) (view l.seat) (range_with_len l.from l.k);
  sets : (view l.seat).sets ≡ (view l.fn.seat).sets;
  kept : Remembers (view l.fn.seat) (view l.seat);
}

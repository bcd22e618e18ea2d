-- A board and its seats, as contracts see them.
use Rattle.std.specs.Prelude.{◌≡◌}
use Rattle.vote_words_model.specs.declared.Terms.{Terms}
use Rattle.vote_words_model.specs.declared.View.{View}
use Rattle.vote_board.specs.declared.board.VoteBoard.{VoteBoard}
use Rattle.vote_board.specs.declared.seat.VoteSeat.{VoteSeat}

-- what a board was made with
abbrev pub terms : VoteBoard → Terms
terms board = board.terms

-- what a seat knows
abbrev pub view : VoteSeat → View
view seat = seat.seat.me.0

-- A seat of this board.
abbrev pub IsSeatOf : VoteBoard → VoteSeat → Type 0
IsSeatOf board seat = seat.seat.table_id ≡ board.table.shared.table_id

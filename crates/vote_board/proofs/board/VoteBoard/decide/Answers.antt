use Rattle.vote_words_model.proofs.Deciding.{decides_one}
use Rattle.vote_board.proofs.Shown.{none_decided}
use Rattle.vote_board.proofs.board.VoteBoard.decide.Goals as goal

pub returns-clause-none : goal.returns-clause-none
returns-clause-none c =
    none_decided c.look.result c.args.self.now.terms c.look.new.seat.seat.me.0 c.args.slot _ _ c.commit_word-from.ensures c.quorum.ensures c.look.ensures.some c.look.ensures.none

pub returns-clause-once : goal.returns-clause-once
returns-clause-once c = decides_one c.args.self.now.terms c.look.new.seat.seat.me.0 c.look.new.seat.sound

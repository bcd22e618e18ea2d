use Rattle.std.proofs.Common.{arith}
use Rattle.vote_words_model.proofs.Keeping.{prepare_word_below}
use Rattle.vote_words_model.proofs.Deciding.{decides_one}
use Rattle.vote_board.proofs.Allowed.{prepare_at}
use Rattle.vote_board.proofs.board.VoteBoard.prepare.Goals as goal

pub compare_exchange-found-requires : goal.compare_exchange-found-requires
compare_exchange-found-requires c =
    let low = prepare_word_below c.args.self.now.terms c.args.slot c.args.member.0 c.requires.place in
    (c.requires.seat, omega arith, prepare_at _ _ _ _ _ _ _ _ _ c.args.self.now.key c.prepare_word-word.ensures c.requires.place c.requires.value (omega arith) c.requires.may)

pub returns-then-found-eq0-clause-once : goal.returns-then-found-eq0-clause-once
returns-then-found-eq0-clause-once c = decides_one c.args.self.now.terms c.compare_exchange-found.new.seat.me.0 c.compare_exchange-found.ensures.2.sound

pub returns-else-found-eq0-clause-once : goal.returns-else-found-eq0-clause-once
returns-else-found-eq0-clause-once c = decides_one c.args.self.now.terms c.compare_exchange-found.new.seat.me.0 c.compare_exchange-found.ensures.2.sound

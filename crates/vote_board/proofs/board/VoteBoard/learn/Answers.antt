use Rattle.std.proofs.Common.{◌∙◌, ap, arith}
use Rattle.atomic_table.specs.Table.{Me}
use Rattle.vote_words_model.specs.declared.View.{View}
use Rattle.vote_words_model.proofs.Deciding.{decides_one}
use Rattle.vote_board.proofs.Allowed.{compare_allowed, join_allowed}
use Rattle.vote_board.proofs.Changed.{joined_alike}
use Rattle.vote_board.proofs.board.VoteBoard.learn.Goals as goal

pub join_seat-requires : goal.join_seat-requires
join_seat-requires c = (c.requires.seat, c.requires.other, c.args.other.free, omega arith, join_allowed _ _ _ _ _)

pub load-requires : goal.load-requires
load-requires c = (c.join_seat.ensures.0 ∙ c.requires.seat, omega arith, compare_allowed _ _ _ _ _)

pub returns-clause-agree : goal.returns-clause-agree
returns-clause-agree c =
    let known = ap (λ (v : View). v.known) (c.load.ensures.2.view ∙ ap (λ (me : Me (Unit {0}) View). me.0) c.join_seat.ensures.2) in
    joined_alike c.args.self.now.terms c.args.seat.now.seat.me.0 c.args.other.seat.me.0 c.load.new.seat.me.0 known c.load.ensures.2.sound

pub returns-clause-once : goal.returns-clause-once
returns-clause-once c = decides_one c.args.self.now.terms c.load.new.seat.me.0 c.load.ensures.2.sound

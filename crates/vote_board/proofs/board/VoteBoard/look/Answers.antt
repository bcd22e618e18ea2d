use Rattle.std.proofs.Common.{◌≡◌, ◌∙◌, ◌∷◌, [], length, arith}
use Rattle.std.proofs.lemmas.List.{length-take-le}
use Rattle.vote_words_model.specs.Places.{size}
use Rattle.vote_board.proofs.Shown.{told_some, told_none}
use Rattle.vote_board.proofs.board.VoteBoard.look.Goals as goal

row_len : (c : goal.After-found-2-1) → length c.load_row.new.found ≡ size c.args.self.now.terms
row_len c = c.load_row.auto.found ∙ length-take-le c.size.result (0 ∷ 0 ∷ 0 ∷ 0 ∷ 0 ∷ 0 ∷ 0 ∷ 0 ∷ 0 ∷ 0 ∷ []) (omega arith) ∙ c.size.ensures.value

pub returns-clause-some : goal.returns-clause-some
returns-clause-some c =
    told_some c.frequent.result c.load_row.new.seat.seat.me.0 c.args.from (size c.args.self.now.terms) c.args.need c.load_row.new.found (row_len c) c.load_row.ensures.shown c.frequent.ensures.full c.frequent.ensures.often

pub returns-clause-none : goal.returns-clause-none
returns-clause-none c =
    told_none c.frequent.result c.load_row.new.seat.seat.me.0 c.args.from (size c.args.self.now.terms) c.args.need c.load_row.new.found (row_len c) c.load_row.ensures.shown c.load_row.new.seat.sound c.requires.need c.frequent.ensures.none

use Rattle.std.proofs.Common.{◌≡◌, ◌++◌, ◌∷◌, [], List, length, subst}
use mathlib.Core.List.{IsPrefix}
use Rattle.board_model.specs.Boards.{Entry}
use Rattle.version_board.specs.Kept.{IsWriter}
use Rattle.version_board.proofs.Noting.{written_more, view_more}
use Rattle.version_board.proofs.writer.BoardWriter.append.Goals as goal

pub invariant_of-self-2 : goal.invariant_of-self-2
invariant_of-self-2 c =
    let old = c.self.inside in
    let kept = subst (λ p. IsWriter p old.counter old.history old.total) c.in-Some.is c.self.invariant in
    let begins = subst (λ (e : Entry). (all : List Entry) → old.total ≡ length all → IsPrefix old.history.list all → IsPrefix c.note_down.new.history.list (all ++ e ∷ [])) c.of-noted.ensures c.note_down.ensures.begins in
    written_more c.in-Some.pen c.append.new.self old.counter old.history c.note_down.new.history old.total c.args.entry kept c.in-Ok.ensures c.note_down.ensures.board begins

pub returns-clause-ok : goal.returns-clause-ok
returns-clause-ok c =
    rw (← c.self.view_is, c.in-Some.is) (view_more c.in-Some.pen c.append.new.self c.self.inside.history c.note_down.new.history c.args.entry c.in-Ok.ensures c.note_down.ensures.board)

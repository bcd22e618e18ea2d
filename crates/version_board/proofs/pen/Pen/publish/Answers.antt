use Rattle.std.proofs.Common.{◌≡◌, fold, ap, ◌∙◌}
use Rattle.version_board.specs.Changes.{changed, added}
use Rattle.version_board.proofs.ChangeLemmas.{added_front, on_err}
use Rattle.version_board.proofs.RuleKept.{publishes}
use Rattle.version_board.proofs.pen.Pen.publish.Goals as goal

pub publish_as-writer-requires : goal.publish_as-writer-requires
publish_as-writer-requires g c next is =
    let pen = c.self.view_is ∙ c.in-Ok.ensures in
    let shown = c.self.inside.writer.desk.shown.value in
    let copy : shown ≡ c.args.self.copy = ap (λ p. p.copy) pen in
    publishes _ _ shown next c.args.self.changes c.args.front (rw copy c.requires.whole) (rw copy c.requires.board) (rw copy c.requires.list) (is ∙ ap (fold changed shown) (ap (λ p. p.changes) pen))

pub returns-in-Err-result : goal.returns-in-Err-result
returns-in-Err-result g c =
    let pen = c.self.view_is ∙ c.in-Ok.ensures in
    let same = on_err c.publish_as-writer.result.1 _ _ c.in-Err-result.field-0 c.in-Err-result.is c.publish_as-writer.ensures.values in (
      same.0 ∙ ap (λ p. p.copy) pen,
      ap added (same.1 ∙ ap (λ p. p.changes) pen) ∙ added_front c.args.self.changes c.args.front,
    )

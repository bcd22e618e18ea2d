use Rattle.std.proofs.Common.{sym, ◌∙◌, ap}
use Rattle.version_board.proofs.Adding.{adds_moves}
use Rattle.version_board.proofs.front.Front.add.Goals as goal

pub compare_exchange-found-requires : goal.compare_exchange-found-requires
compare_exchange-found-requires c =
    let h = c.requires.counter in
    let offer = c.plain-offer.ensures in
    let pen = c.no_pen-pen.ensures in
    let again = c.again-next.ensures in
    let board = ap (λ p. p.board) c.self.view_is in (
      ap (λ w. w.tracked) h,
      ap (λ s. s.book) again ∙ board ∙ sym (ap (λ w. w.book) h),
      pen.0 ∙ board ∙ sym (ap (λ w. w.book) h),
      offer.0 ∙ sym (ap (λ s. s.names) again),
      rw (ap (λ w. w.key) h, pen.1, offer.1, offer.3, again) (adds_moves c.self.inside.seen.log c.args.entry.now.value c.from-count.result (sym c.self.invariant.0 ∙ sym c.from-count.ensures)),
    )

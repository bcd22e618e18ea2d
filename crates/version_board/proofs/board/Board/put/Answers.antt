use Rattle.std.proofs.Common.{◌≡◌, ◌++◌, ◌∷◌, [], ap, ◌∙◌, arith, length-append}
use Rattle.version_board.proofs.PlaceLemmas.{one_put}
use Rattle.version_board.proofs.board.Board.put.Goals as goal

pub invariant_of-self-2 : goal.invariant_of-self-2
invariant_of-self-2 c =
    let old = c.self.inside.entries.items in
    let items : c.push_reserved.new.self.items ≡ old ++ c.args.entry ∷ [] = c.push_reserved.ensures.items ∙ ap (λ l. l ++ c.args.entry ∷ []) c.reserve.ensures.items in
    rw items (
      omega (arith, length-append old (c.args.entry ∷ []), c.if-at.false, c.len-at.ensures),
      one_put c.self.inside.places.entries c.insert.new.self.entries old c.args.entry c.entry.inside.label c.len-at.result
          (ap (λ e. e.label) c.entry.view_is) (omega (arith, c.len-at.ensures, c.self.inside.entries.ok)) c.in-Ok-insert.ensures.updates.0 c.self.invariant.1,
    )

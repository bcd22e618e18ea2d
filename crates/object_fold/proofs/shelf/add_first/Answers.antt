use Rattle.std.proofs.Common.{[], ◌∷◌, ◌++◌, ap, sym, ◌∙◌}
use Rattle.object_fold.proofs.ShelfLemmas.{put_more}
use Rattle.object_fold.proofs.shelf.add_first.Goals as goal

pub returns : goal.returns
returns c =
    put_more c.args.later.now.entries c.insert.new.self.entries c.args.label.now c.args.tree _
    (λ other. c.in_ok-insert.ensures.updates.0 other)
    (c.in_ok-push.ensures.ok ∙ ap (λ xs. xs ++ c.args.tree ∷ []) (c.new-trees.ensures ∙ sym c.requires))

use Rattle.std.proofs.Common.{List, [], ◌∷◌, ◌++◌, Option, unwrap_or, ap, subst, ◌∙◌, rules}
use Rattle.std.proofs.lemmas.Result.{on_ok_weaker}
use Rattle.cow_tree.specs.Views.{TreeView}
use Rattle.object_fold.specs.Views.{ShelfView}
use Rattle.object_fold.specs.Shelves.{HasOneLater}
use Rattle.object_fold.proofs.ShelfLemmas.{put_more}
use Rattle.object_fold.proofs.shelf.Shelf.add.Goals as goal

pub returns-in-Some : goal.returns-in-Some
returns-in-Some c =
    let new = (c.get_mut.follows.lender c.push.new.self).entries in
    on_ok_weaker c.push.result (λ e. (
      ap (λ (s : ShelfView). s.first) c.self.view_is,
      subst (λ (s : ShelfView). HasOneLater s.later new c.args.label.now c.args.tree) c.self.view_is
          (put_more c.self.inside.later.entries new c.args.label.now c.args.tree c.push.new.self
          (λ other. ((c.get_mut.follows.holds c.push.new.self).3 (search rules)).0 other)
          (e ∙ ap (λ (o : Option (List TreeView)). unwrap_or o [] ++ c.args.tree ∷ []) c.in-Some.ensures.value)),
    )) c.push.ensures.ok

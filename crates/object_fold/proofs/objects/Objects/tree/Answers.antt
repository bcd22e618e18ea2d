use Rattle.std.proofs.Common.{slice_get, ap, ◌∙◌}
use Rattle.object_model.specs.Folds.{versions_after}
use Rattle.cow_tree.specs.Versions.{IsTreeIn}
use Rattle.object_fold.specs.Views.{ObjectsView}
use Rattle.object_fold.specs.Shelves.{trees_in}
use Rattle.object_fold.proofs.ShelfLemmas.{tree_there, lent_one}
use Rattle.object_fold.proofs.objects.Objects.tree.Goals as goal

pub returns-clause-tree : goal.returns-clause-tree
returns-clause-tree c = λ h block requests after.
    c.at.ensures ∙ ap (λ (o : ObjectsView). slice_get (trees_in o.trees c.args.label.now) c.args.version.0) c.self.view_is
    ∙ ap (λ trees. slice_get trees c.args.version.0) (after.trees c.args.label.now)
    ∙ tree_there h block (versions_after h block c.args.label.now requests) c.args.version.0

pub returns-clause-known : goal.returns-clause-known
returns-clause-known c = λ h held known.
    lent_one (IsTreeIn h held) _ c.at.result (trees_in c.args.self.now.trees c.args.label.now) c.args.version.0
    (c.at.ensures ∙ ap (λ (o : ObjectsView). slice_get (trees_in o.trees c.args.label.now) c.args.version.0) c.self.view_is) (known.known c.args.label.now)

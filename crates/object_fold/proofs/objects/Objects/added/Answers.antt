use Rattle.std.proofs.Common.{slice_get, ap, ◌∙◌}
use Rattle.object_model.specs.Folds.{versions_after}
use Rattle.object_fold.specs.Views.{ObjectsView}
use Rattle.object_fold.specs.Added.{added_in}
use Rattle.object_fold.proofs.ShelfLemmas.{added_there}
use Rattle.object_fold.proofs.objects.Objects.added.Goals as goal

pub returns : goal.returns
returns c = λ h block requests after.
    c.at.ensures ∙ ap (λ (o : ObjectsView). slice_get (added_in o.added c.args.label.now) c.args.version.0) c.self.view_is
    ∙ ap (λ lists. slice_get lists c.args.version.0) (after.added c.args.label.now)
    ∙ added_there h block (versions_after h block c.args.label.now requests) c.args.version.0

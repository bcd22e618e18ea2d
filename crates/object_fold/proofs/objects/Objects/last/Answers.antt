use Rattle.std.proofs.Common.{◌+◌, ap, sym, ◌∙◌}
use Rattle.tree_format.specs.declared.root.Root.{Root}
use Rattle.cow_tree.specs.Views.{TreeView}
use Rattle.object_fold.specs.Views.{ObjectsView}
use Rattle.object_fold.specs.Shelves.{newest_in}
use Rattle.object_fold.proofs.ExecutedLemmas.{last_number}
use Rattle.object_fold.proofs.objects.Objects.last.Goals as goal

pub returns : goal.returns
returns c = λ h block requests after.
    last_number h block requests c.args.self.now after c.args.label.now
    ∙ sym (ap (λ (r : Root). r.version.0 + 1) c.root.ensures.value ∙ ap (λ (t : TreeView). t.root.version.0 + 1) (c.newest.ensures ∙ ap (λ (o : ObjectsView). newest_in o.trees c.args.label.now) c.self.view_is))

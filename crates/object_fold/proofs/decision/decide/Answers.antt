use Rattle.std.proofs.Common.{◌≡◌, List, length, ap, sym, ◌∙◌}
use Rattle.tree_format.specs.declared.root.Root.{Root}
use Rattle.guarded_update.specs.declared.update.Action.{Action}
use Rattle.object_model.specs.Updates.{act_all}
use Rattle.cow_tree.specs.Views.{TreeView}
use Rattle.object_fold.specs.Choice.{measured, refusal_of}
use Rattle.object_fold.proofs.ChoiceLemmas.{none_chosen, all_done, one_failed}
use Rattle.object_fold.proofs.decision.decide.Goals as goal

pub returns-in_default : goal.returns-in_default
returns-in_default c = λ h block content older stands. none_chosen h block c.args.clauses.now content older (c.in_default.ensures h block content older stands)

pub returns-in-Ok : goal.returns-in-Ok
returns-in-Ok c = λ h block content older stands.
    let count : length content ≡ c.root.result.now.length = sym (ap (λ (t : TreeView). t.root.length) stands) ∙ sym (ap (λ (r : Root). r.length) c.root.ensures.value) in
    let shown = c.as_slice.ensures ∙ sym c.as_slice-in-Ok.ensures in
    all_done h block c.args.clauses.now content older c.in-Some.actions.now c.as_slice-in-Ok.result.now c.as_slice-in-Ok.ensures (c.in-Some.ensures h block content older stands) c.in-Ok.field-0
    (ap (λ (actions : List Action). measured (act_all actions content)) (sym shown) ∙ c.in-Ok.ensures content count)

pub returns-in-Err : goal.returns-in-Err
returns-in-Err c = λ h block content older stands.
    let count : length content ≡ c.root.result.now.length = sym (ap (λ (t : TreeView). t.root.length) stands) ∙ sym (ap (λ (r : Root). r.length) c.root.ensures.value) in
    one_failed h block c.args.clauses.now content older c.in-Some.actions.now c.as_slice.result.now c.as_slice.ensures (c.in-Some.ensures h block content older stands) (refusal_of c.in-Err.refused) (c.in-Err.ensures content count)

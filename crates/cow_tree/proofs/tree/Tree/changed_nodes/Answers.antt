use Rattle.std.proofs.Common.{List, [], ◌∷◌, ◌++◌, ap, ap₂, ◌∙◌}
use Rattle.cow_tree.specs.Views.{NodeView, TreeView}
use Rattle.cow_tree.specs.Changed.{changed_in_row, changed_in_rows, root_node}
use Rattle.cow_tree.proofs.Differing.{groups_changed}
use Rattle.cow_tree.proofs.tree.Tree.changed_nodes.Goals as goal

pub returns : goal.returns
returns c =
    let leaves =
    c.in_ok-add_changed_leaves.ensures ∙ ap (λ (ns : List NodeView). ns ++ changed_in_rows c.groups.result.now c.groups-2.result.now) c.new-changed.ensures
    ∙ groups_changed c.groups.result.now c.groups-2.result.now c.groups.ensures.grouped c.groups-2.ensures.grouped ∙ ap₂ changed_in_row c.groups.ensures.value c.groups-2.ensures.value in
    let rows =
    c.in_ok-add_changed_rows.ensures ∙ ap (λ (ns : List NodeView). ns ++ changed_in_rows c.as_slice.result.now c.as_slice-2.result.now) leaves
    ∙ ap₂ (λ (rs bs : List (List NodeView)). changed_in_row c.self.inside.leaves c.older.inside.leaves ++ changed_in_rows rs bs) c.as_slice.ensures c.as_slice-2.ensures in
    c.in_ok-push.ensures.ok ∙ ap₂ (λ (ns : List NodeView) (n : NodeView). ns ++ n ∷ []) rows c.in_ok-root_node.ensures
    ∙ ap₂ (λ (t b : TreeView). changed_in_rows t.rows b.rows ++ root_node c.args.self.now ∷ []) c.self.view_is c.older.view_is

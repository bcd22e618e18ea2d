-- Where a tree differs from another one, by the names of its nodes.
use Rattle.std.specs.Prelude.{List, [], ◌∷◌, ◌++◌, Option, Some, None, drop, slice_get, unwrap_or, if◌then◌else◌}
use Rattle.std.specs.List.{flat_map}
use Rattle.std.specs.Str.{bytes_eq}
use Rattle.tree_format.specs.Strings.{root_string}
use Rattle.cow_tree.specs.Views.{NodeView, TreeView}

-- what a function gives for each item of a list and the item at its place in another one, where there is one
abbrev pub paired : {X Y : Type 0} → (X → Option X → List Y) → List X → List X → List Y
paired f [] before = []
paired f (x ∷ xs) before = f x (slice_get before 0) ++ paired f xs (drop 1 before)

-- a node, unless the other one has its name
abbrev pub unless_there : NodeView → Option NodeView → List NodeView
unless_there n None = n ∷ []
unless_there n (Some before) = if bytes_eq before.name n.name then [] else n ∷ []

-- the nodes of a row that have another name than the one at their place in another row, or have none there
abbrev pub changed_in_row : List NodeView → List NodeView → List NodeView
changed_in_row row before = paired unless_there row before

-- the same row by row
abbrev pub changed_in_rows : List (List NodeView) → List (List NodeView) → List NodeView
changed_in_rows rows before = paired (λ row other. changed_in_row row (unwrap_or other [])) rows before

-- the root string of a tree under the name of its version
abbrev pub root_node : TreeView → NodeView
root_node tree = record { string = root_string tree.root; name = tree.name }

-- the nodes of a tree: row by row, and that of its root string
abbrev pub nodes_of : TreeView → List NodeView
nodes_of tree = flat_map (λ row. row) tree.rows ++ root_node tree ∷ []

-- those that have another name than the one at their place in another tree, or have none there, and that of its root string
abbrev pub changed_nodes : TreeView → TreeView → List NodeView
changed_nodes tree before = changed_in_rows tree.rows before.rows ++ root_node tree ∷ []

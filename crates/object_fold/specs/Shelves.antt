-- The trees of versions. The versions of an object are a list of byte strings, the newest first; its trees are the oldest first.
use Rattle.std.specs.Prelude.{◌≡◌, ◌==◌, ℕ, List, [], ◌∷◌, ◌++◌, length, Option, Some, None, unwrap_or, if◌then◌else◌}
use Rattle.std.specs.List.{fold}
use Rattle.std.specs.Str.{bytes_eq}
use Rattle.std.specs.Ordering.{nat_cmp}
use Rattle.std.specs.Cmp.Lexicographic.{slice_cmp}
use Rattle.std.specs.BTreeMap.{is_at}
use Rattle.std.specs.Map.{lookup}
use Rattle.object_model.specs.Trees.{version_name}
use Rattle.cow_tree.specs.Views.{TreeView}
use Rattle.cow_tree.specs.Versions.{tree_after}
use Rattle.object_fold.specs.Views.{ShelfView}

-- the tree of a version over the older ones
abbrev pub tree_of : (List ℕ → List ℕ) → ℕ → List ℕ → List (List ℕ) → TreeView
tree_of h block content older = tree_after h block (length older) (version_name h block older) content

-- the trees of the versions of an object
abbrev pub trees_of : (List ℕ → List ℕ) → ℕ → List (List ℕ) → List TreeView
trees_of h block [] = []
trees_of h block (content ∷ older) = trees_of h block older ++ tree_of h block content older ∷ []

-- the tree of the version of a number, where there is such a version
abbrev pub tree_at : (List ℕ → List ℕ) → ℕ → List (List ℕ) → ℕ → Option TreeView
tree_at h block [] number = None
tree_at h block (content ∷ older) number = if number == length older then Some (tree_of h block content older) else tree_at h block older number

-- what entries have at a label
abbrev pub later_at : List (List ℕ × List TreeView) → List ℕ → List TreeView
later_at entries label = unwrap_or (lookup (is_at (slice_cmp nat_cmp label)) entries) []

-- the trees that stand under a label
abbrev pub trees_in : ShelfView → List ℕ → List TreeView
trees_in shelf label = shelf.first ∷ later_at shelf.later label

-- the last of some trees
abbrev pub last_tree : TreeView → List TreeView → TreeView
last_tree first trees = fold (λ (before tree : TreeView). tree) first trees

-- the newest tree under a label
abbrev pub newest_in : ShelfView → List ℕ → TreeView
newest_in shelf label = last_tree shelf.first (later_at shelf.later label)

-- the trees of one label have one more at the end, and those of the other labels are as they were
abbrev pub HasOneLater : List (List ℕ × List TreeView) → List (List ℕ × List TreeView) → List ℕ → TreeView → Type 0
HasOneLater old new label tree =
    (other : List ℕ) → later_at new other ≡ (if bytes_eq label other then later_at old other ++ tree ∷ [] else later_at old other)

-- the same of all trees
abbrev pub HasOneMore : ShelfView → ShelfView → List ℕ → TreeView → Type 0
HasOneMore old new label tree = (new.first ≡ old.first) × HasOneLater old.later new.later label tree

-- The objects, as contracts see them.
use Rattle.std.specs.Prelude.{ℕ, List}
use Rattle.pond_base.specs.declared.numbers.ClientId.{ClientId}
use Rattle.pond_base.specs.declared.numbers.Version.{Version}
use Rattle.cow_tree.specs.Views.{NodeView, TreeView}

-- the tree of version 0, which each object has, and under their labels the trees of the later versions, the oldest first
pub record ShelfView : Type 0 where
  pub first : TreeView
  pub later : List (List ℕ × List TreeView)

-- the names of the strings of an object, in their order, and what each version above version 0 added, the oldest first
pub record StringsView : Type 0 where
  pub names : List (List ℕ)
  pub added : List (List NodeView)

-- what version 0 added, which each object has, and under their labels the strings of the objects that have later versions
pub record AddedView : Type 0 where
  pub first : List NodeView
  pub later : List (List ℕ × StringsView)

-- the trees, what they added, the clients and numbers of the executed requests, and the versions that were made, the oldest first
pub record ObjectsView : Type 0 where
  pub trees : ShelfView
  pub added : AddedView
  pub seen : List (ClientId × ℕ)
  pub made : List (List ℕ × Version)

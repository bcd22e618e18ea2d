use Rattle.cow_tree.specs.Versions.{IsTreeIn}
use Rattle.tree_speed.proofs.editing.replace_each.Given as goal

abbrev pub invariant-loop-call : goal.invariant-loop-call
invariant-loop-call g l = IsTreeIn g.H.Hash160.naming l.book.held l.tree

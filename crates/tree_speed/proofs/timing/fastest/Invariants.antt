use Rattle.cow_tree.specs.Versions.{IsTreeIn}
use Rattle.tree_speed.proofs.timing.fastest.Given as goal

abbrev pub invariant-loop-round : goal.invariant-loop-round
invariant-loop-round g l = IsTreeIn g.H.Hash160.naming l.book.held l.tree

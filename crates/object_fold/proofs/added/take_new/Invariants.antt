use Rattle.object_fold.proofs.Adding.{TakenUpTo}
use Rattle.object_fold.proofs.added.take_new.Given as goal

abbrev pub invariant-loop-node : goal.invariant-loop-node
invariant-loop-node l = TakenUpTo l.fn.names.keys l.names.keys l.nodes l.node-index l.taken

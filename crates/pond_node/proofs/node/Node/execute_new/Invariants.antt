use Rattle.pond_node.proofs.Running.{Running}
use Rattle.pond_node.proofs.node.Node.execute_new.Given as goal

abbrev pub invariant-loop-place : goal.invariant-loop-place
invariant-loop-place g l = Running g.H.Hash160.naming l.fn.self l.fn.book.held l.fn.out.items l.place l.self l.book.held l.out.items

use Rattle.pond_world.proofs.Made.{AreMade}
use Rattle.pond_world.proofs.opening.nodes_of.Given as goal

abbrev pub invariant-loop-id : goal.invariant-loop-id
invariant-loop-id g l = AreMade g.H.Hash160.naming l.setup l.faulty l.initial.book.held l.nodes.items l.book.held l.id

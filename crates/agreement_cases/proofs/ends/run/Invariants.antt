use Rattle.std.specs.Prelude.{◌≡◌, false}
use Rattle.pond_node.specs.Standing as node
use Rattle.ring_world.specs.Worlds.{IsKnown}
use Rattle.agreement_cases.proofs.ends.run.Given as goal

abbrev pub invariant-loop-step : goal.invariant-loop-step
invariant-loop-step g l = l.world.ended ≡ false → IsKnown node.IsKnown g.H.Hash160.naming l.book.held l.world

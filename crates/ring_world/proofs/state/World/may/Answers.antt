use Rattle.ring_world.proofs.Nexts.{next_step, next_comes, comes_next}
use Rattle.ring_world.proofs.state.World.may.Goals as goal

pub returns-clause-comes : goal.returns-clause-comes
returns-clause-comes g c = λ yes h r events ring s. next_comes g.N.Node.stands h r c.args.self.now events c.args.event.now ring s (c.tests.ensures.next yes) (c.tests.ensures.places yes)

pub returns-clause-stays : goal.returns-clause-stays
returns-clause-stays g c = λ no h r events ring s step may. c.tests.ensures.no no (comes_next g.N.Node.stands r c.args.self.now events c.args.event.now s step may)

pub returns-clause-yes : goal.returns-clause-yes
returns-clause-yes g c = λ yes. next_step c.args.self.now c.args.event.now (c.tests.ensures.next yes)

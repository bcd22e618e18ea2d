use Rattle.std.proofs.Common.{None, IfSome, subst}
use Rattle.ring_model.specs.Messages.{Member as member}
use Rattle.ring_world.proofs.Looking.{best_there}
use Rattle.ring_world.proofs.members.Members.longest.Goals as goal

pub returns-in-Some-clause-best : goal.returns-in-Some-clause-best
returns-in-Some-clause-best g c = λ r got archived h.
    let best = c.in-Some.ensures.best r got archived h in
    let at = c.in-Some.best in
    (at, best.0, subst (λ node. IfSome node (λ one. g.N.Node.stands one r at (got (member at)) (archived at))) c.node.ensures (h.nodes_stand at None best.0.0), best)

pub returns-in-None-clause-best : goal.returns-in-None-clause-best
returns-in-None-clause-best g c = λ r got archived h. best_there g.N.Node.stands r c.args.self.now got archived h (c.in-None.ensures.best r got archived h) _

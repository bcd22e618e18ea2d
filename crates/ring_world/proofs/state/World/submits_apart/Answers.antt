use Rattle.ring_world.proofs.Requests.{submits_apart}
use Rattle.ring_world.proofs.state.World.submits_apart.Goals as goal

pub returns : goal.returns
returns g c = λ r events ring s.
    submits_apart g.N.Node.stands g.N.Node.knows g.H.Hash160.naming c.args.book.now.held r c.args.self.now events ring (c.requires s.is.going) s

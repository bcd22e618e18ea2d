use Rattle.ring_world.proofs.Requests.{labels_held}
use Rattle.ring_world.proofs.state.World.labels_held.Goals as goal

pub returns : goal.returns
returns g c = λ r events ring s.
    labels_held g.N.Node.stands g.N.Node.knows g.H.Hash160.naming c.args.book.now.held r c.args.self.now events (c.requires s.is.going) s

use Rattle.ring_model.specs.World.{world}
use Rattle.ring_model.specs.Deliveries.{deliveries}
use Rattle.ring_world.proofs.Stepping.{same_mail}
use Rattle.ring_world.proofs.state.World.lose.Goals as goal

pub returns-in-Ok-clause-stands : goal.returns-in-Ok-clause-stands
returns-in-Ok-clause-stands g c = λ r events h.
    record {
      is = same_mail g.N.Node.stands r c.args.self.now (world r events) (deliveries r events) c.lose.new.self (c.in-Ok.ensures.mail (world r events).sent (deliveries r events) h.is.mail_is) h.is;
      legal = h.legal;
    }

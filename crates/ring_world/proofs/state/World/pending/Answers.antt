use Rattle.ring_model.specs.World.{world}
use Rattle.ring_model.specs.Deliveries.{deliveries}
use Rattle.ring_world.proofs.Looking.{found_told, found_none}
use Rattle.ring_world.proofs.state.World.pending.Goals as goal

pub returns-in-Some : goal.returns-in-Some
returns-in-Some g c = λ r events h. found_told c.args.self.now.mail (world r events).sent (deliveries r events) c.in-Some.note c.told.result h.is.mail_is (c.in-Some.ensures _ _ h.is.mail_is) c.told.ensures

pub returns-in-None : goal.returns-in-None
returns-in-None g c = λ r events h. found_none (world r events).sent (deliveries r events) (c.in-None.ensures _ _ h.is.mail_is)

use Rattle.std.proofs.Common.{filter, ◌∙◌, ap, get_or, arith}
use Rattle.std.proofs.lemmas.List.Sums.{length-filter}
use Rattle.ring_model.specs.Messages.{Client as client}
use Rattle.ring_model.specs.World.{world}
use Rattle.ring_model.specs.Deliveries.{deliveries}
use Rattle.ring_world.proofs.Telling.{of, client_at}
use Rattle.ring_world.proofs.state.World.submitted.Goals as goal

pub returns-in-Some : goal.returns-in-Some
returns-in-Some g c = λ r events s low.
    let same = c.in-Some.ensures.lookup.1 ∙ ap (λ xs. get_or xs c.args.client.0 c.in-Some.client.now) c.deref.ensures.value in
    c.submitted.ensures.submits r c.args.client.0 (filter (of r c.args.client.0) (world r events).submits) ((world r events).got (client c.args.client.0))
    (client_at g.N.Node.stands r c.args.self.now (world r events) (deliveries r events) c.args.client.0 c.in-Some.client.now c.in-Some.client.now (omega (arith, low, s.is.client_count)) same s.is)
    ∙ length-filter (of r c.args.client.0) (world r events).submits

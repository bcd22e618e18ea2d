use Rattle.std.proofs.Common.{arith}
use Rattle.std.proofs.lemmas.Bool.{leb-false}
use Rattle.client_core.specs.declared.client.Client.{Client}
use Rattle.ring_world.proofs.Requests.{some_item}
use Rattle.ring_world.proofs.state.World.may_resubmit.Goals as goal

pub returns-then-number-gt0-clause-no : goal.returns-then-number-gt0-clause-no
returns-then-number-gt0-clause-no g c = λ e step.
    let some : Client = some_item c.args.self.now.clients.items (omega (arith, step.0.1)) in
    let few = step.2 some in
    let count = c.in-Some.ensures.some.1 some in
    let more = leb-false c.args.number c.in-Some.count e in
    omega (arith, few, count, more)

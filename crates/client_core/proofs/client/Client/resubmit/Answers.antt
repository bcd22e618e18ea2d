use Rattle.std.proofs.Common.{◌+◌, ◌*◌, ◌≤◌, ◌-◌, arith, refl, ◌∙◌}
use Rattle.client_core.proofs.Standing.{on_value, carried, place_of, asks_are}
use Rattle.client_core.proofs.Sending.{all_low}
use Rattle.client_core.proofs.client.Client.resubmit.Goals as goal

pub returns-clause-sent : goal.returns-clause-sent
returns-clause-sent c = on_value c.to_each.result c.to_each.ensures (λ outs each g k submits got text stands there.
    each k
    ∙ asks_are g c.args.self.now.f k k c.index-asked.result.now.message text stands.faulty refl
    (carried c.args.self.now.requests.items submits (c.args.number - 1) c.index-asked.result.now text stands.requests stands.messages
    (place_of c.args.self.now.requests.items (c.args.number - 1) c.index-asked.result.now (omega (arith, c.requires.0, c.requires.1)) c.index-asked.ensures) there))

pub returns-clause-seats : goal.returns-clause-seats
returns-clause-seats c = on_value c.to_each.result c.to_each.ensures (λ outs each.
    let few : 3 * c.args.self.now.f + 1 ≤ 10 = omega (arith, c.args.self.now.few) in
    all_low (3 * c.args.self.now.f + 1) c.index-asked.result.now.message outs.items few (each 0))

use Rattle.std.proofs.Common.{◌≡◌, ◌+◌, ◌*◌, ◌≤◌, ap, rules, ◌∙◌, arith}
use Rattle.guarded_update.specs.Fitting.{IsRequest}
use Rattle.guarded_update.specs.Spelling.{request_string}
use Rattle.ring_model.specs.Messages.{Request}
use Rattle.client_core.specs.Clients.{next_request}
use Rattle.client_core.proofs.Standing.{asks_are}
use Rattle.client_core.proofs.Sending.{all_low}
use Rattle.client_core.proofs.client.Client.submit.Goals as goal

pub returns-clause-sent : goal.returns-clause-sent
returns-clause-sent g c = λ r k submits got ring stands.
    let text : c.in_ok-text.text ≡ request_string (next_request c.args.self.now c.args.label c.args.update) = search rules in
    let allowed : IsRequest (next_request c.args.self.now c.args.label c.args.update) = search rules in
    c.in_ok-outs.ensures k
    ∙ asks_are r c.args.self.now.f k (r.owner (request_string (next_request c.args.self.now c.args.label c.args.update))) c.in_ok-message.message (request_string (next_request c.args.self.now c.args.label c.args.update)) stands.faulty
    (ring.owners (next_request c.args.self.now c.args.label c.args.update) allowed ∙ stands.number) (c.in_ok-message.ensures ∙ ap Request text)

pub returns-clause-seats : goal.returns-clause-seats
returns-clause-seats g c =
    let few : 3 * c.args.self.now.f + 1 ≤ 10 = omega (arith, c.args.self.now.few) in
    all_low (3 * c.args.self.now.f + 1) c.in_ok-message.message c.in_ok-outs.outs.items few (c.in_ok-outs.ensures 0)

use Rattle.std.proofs.Common.{◌≡◌, ◌<◌, length, filter, ◌∙◌, arith}
use Rattle.ring_model.specs.Messages.{Client as client}
use Rattle.message_model.specs.Meaning.{who}
use Rattle.client_core.proofs.Standing.{on_ok}
use Rattle.ring_world.proofs.Telling.{of, client_at, told_client}
use Rattle.ring_world.proofs.state.World.tell.Goals as goal

pub returns-clause-ok : goal.returns-clause-ok
returns-clause-ok g c = on_ok c.take.result c.take.ensures.stands (λ taken h r v done ring is known.
    let k = c.args.to.0 in
    let one = c.index_mut.result.now in
    let size : c.len.result ≡ length c.args.self.now.clients.items = c.len.ensures ∙ c.args.self.now.clients.ok.0 in
    let low : k < length c.args.self.now.clients.items = omega (arith, size, c.if-at-len.false) in
    told_client g.N.Node.stands r c.args.self.now v done (who c.args.from) k c.args.bytes.now c.take.new.self low
    (taken r k (filter (of r k) v.submits) (v.got (client k)) known (client_at g.N.Node.stands r c.args.self.now v done k one one low c.index_mut.ensures.value is)) is)

use Rattle.std.proofs.Common.{get_or, refl, arith}
use Rattle.ring_world.proofs.Telling.{starts}
use Rattle.ring_world.proofs.Requests.{none_held}
use Rattle.ring_world.proofs.state.World.new.Goals as goal

pub returns-clause-stands : goal.returns-clause-stands
returns-clause-stands g c = λ r s.
    starts g.N.Node.stands r _ c.args.f c.args.clients s c.requires.count c.in_ok-clients.ensures.stand c.in_ok-clients.ensures.count c.in_ok-mail.ensures.mail c.in_ok-recent.ensures refl

pub returns-clause-known : goal.returns-clause-known
returns-clause-known g c = λ h held nodes. record {
  nodes = nodes;
  requests = λ k d low. none_held h held (get_or c.in_ok-clients.clients.items k d) (c.in_ok-clients.ensures.none k d (omega (arith, low, c.in_ok-clients.ensures.count)));
}

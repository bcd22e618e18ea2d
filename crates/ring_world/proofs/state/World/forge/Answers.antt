use Rattle.message_model.specs.Meaning.{who}
use Rattle.ring_world.proofs.Requests.{forged}
use Rattle.ring_world.proofs.Stepping.{declared_seat}
use Rattle.ring_world.proofs.state.World.forge.Goals as goal

pub push-requires : goal.push-requires
push-requires g c = (c.requires.0.0, declared_seat c.args.self.now (who c.args.to) c.requires.1)

pub returns-clause-ok : goal.returns-clause-ok
returns-clause-ok g c = λ h r v done ring is.
    forged g.N.Node.stands r c.args.self.now v done c.args.member.0 (who c.args.to) c.args.bytes c.push.new.self (c.in_ok-push.ensures.mail v.sent done is.mail_is) is

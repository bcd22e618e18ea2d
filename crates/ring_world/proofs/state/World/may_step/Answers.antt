use Rattle.ring_world.proofs.Fits.{step_fits}
use Rattle.ring_world.proofs.state.World.may_step.Goals as goal

pub returns : goal.returns
returns g c = λ r events s may. step_fits g.N.Node.stands r c.args.self.now events c.args.event.now s may

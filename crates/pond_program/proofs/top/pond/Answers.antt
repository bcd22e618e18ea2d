use Rattle.pond_program.proofs.Converses.{remains}
use Rattle.pond_program.proofs.top.pond.Goals as goal

pub returns : goal.returns
returns g c = record { says = c.answer.ensures; remains = remains _ c.answer.result _ _ c.answer.ensures }

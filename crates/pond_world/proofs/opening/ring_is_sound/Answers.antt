use Rattle.std.proofs.Common.{◌+◌, ◌*◌, arith}
use Rattle.fold_model.proofs.Joined.{ring_is_read}
use Rattle.pond_world.specs.Setups.{is_among}
use Rattle.pond_world.proofs.Faulty.{few_among}
use Rattle.pond_world.proofs.opening.ring_is_sound.Goals as goal

pub returns : goal.returns
returns c = λ h setup archiving is. (ring_is_read setup.f setup.clients (is_among setup.faulty) h setup.block archiving, omega (arith, few_among setup.faulty (3 * setup.f + 1), is.few_faulty))

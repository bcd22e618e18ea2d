use Rattle.ring_model.proofs.Chosen.{chosen_is_held as law}
use Rattle.ring_model.proofs.chosen_is_held.Goals as goal

pub returns : goal.returns
returns c = law

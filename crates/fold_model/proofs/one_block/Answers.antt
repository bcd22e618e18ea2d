use Rattle.fold_model.proofs.Blocks.{one_block as law}
use Rattle.fold_model.proofs.one_block.Goals as goal

pub returns : goal.returns
returns c = law

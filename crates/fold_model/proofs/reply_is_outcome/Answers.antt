use Rattle.fold_model.proofs.Joined.{reply_is_outcome as law}
use Rattle.fold_model.proofs.reply_is_outcome.Goals as goal

pub returns : goal.returns
returns c = law

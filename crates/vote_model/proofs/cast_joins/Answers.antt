use Rattle.vote_model.proofs.Joined.{cast_joins}
use Rattle.vote_model.proofs.cast_joins.Goals as goal

pub returns : goal.returns
returns c = cast_joins

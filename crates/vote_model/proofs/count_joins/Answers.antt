use Rattle.vote_model.proofs.Joined.{count_joins}
use Rattle.vote_model.proofs.count_joins.Goals as goal

pub returns : goal.returns
returns c = count_joins

use Rattle.replica_model.proofs.Counting.{walk_is_short}
use Rattle.replica_model.proofs.laws.walks_are_short.Goals as goal

pub returns : goal.returns
returns c = λ h answers places r name replicas. walk_is_short h answers places r 5 name replicas

use Rattle.replica_model.proofs.Following.{version_follows}
use Rattle.replica_model.proofs.laws.walks_follow_the_tree.Goals as goal

pub returns : goal.returns
returns c = λ h known answers places r block content older replicas long version apart among held named.
    version_follows h known answers places r block content older long version apart among replicas held named

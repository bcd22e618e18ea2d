use Rattle.dissemination.proofs.Changing.{parents-set}
use Rattle.dissemination.proofs.pushing.take_last.Goals as goal

pub returns-clause-parents : goal.returns-clause-parents
returns-clause-parents c = parents-set c.args.replicas.now c.args.replica c.take_last.new.self c.index-replicas-replica.result c.requires c.take_last.ensures.parent

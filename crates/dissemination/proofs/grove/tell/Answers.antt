use Rattle.dissemination.proofs.Changing.{parents-set}
use Rattle.dissemination.proofs.grove.tell.Goals as goal

pub returns-clause-parents : goal.returns-clause-parents
returns-clause-parents c = parents-set c.args.replicas.now c.args.replica c.lie.new.self c.index-replicas-replica.result c.requires c.lie.ensures.parent

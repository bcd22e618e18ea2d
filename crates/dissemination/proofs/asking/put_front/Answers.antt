use Rattle.dissemination.proofs.Changing.{cleared-set}
use Rattle.dissemination.proofs.asking.put_front.Goals as goal

pub returns-clause-others : goal.returns-clause-others
returns-clause-others c = cleared-set c.args.replicas.now c.args.replica c.put_front.new.self c.index-replicas-replica.result c.requires c.put_front.ensures.others

use Rattle.dissemination.proofs.Changing.{cleared-set}
use Rattle.dissemination.proofs.asking.own_answer.Goals as goal

pub returns-clause-others : goal.returns-clause-others
returns-clause-others c = cleared-set c.args.replicas.now c.args.replica c.own.new.self c.index-replicas-replica.result c.requires c.own.ensures.others

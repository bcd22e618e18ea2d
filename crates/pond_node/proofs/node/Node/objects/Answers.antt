use Rattle.pond_node.proofs.Served.{by_block}
use Rattle.pond_node.proofs.node.Node.objects.Goals as goal

pub returns-clause-after : goal.returns-clause-after
returns-clause-after c = λ g i got archived st block small folds. (by_block c.args.self.now g i got st.done block small folds).after

use Rattle.stages.proofs.Steps.{puts, learns}
use Rattle.stages.proofs.queue.JobQueue.put.Goals as goal

pub push_as-requires-clause-rule : goal.push_as-requires-clause-rule
push_as-requires-clause-rule g c = (puts _ _ _ _ c.args.pass.now.some_part, learns _ _)

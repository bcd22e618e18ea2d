use Rattle.stages.proofs.Steps.{takes, learns}
use Rattle.stages.proofs.queue.JobQueue.take.Goals as goal

pub pop_as-job-requires-clause-rule : goal.pop_as-job-requires-clause-rule
pop_as-job-requires-clause-rule g c = (takes _ _ c.args.pass.now.some_part, learns _ _)

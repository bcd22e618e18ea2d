use Rattle.stages.proofs.Steps.{splits}
use Rattle.stages.proofs.queue.JobQueue.split.Goals as goal

pub another-other-requires-clause-rule : goal.another-other-requires-clause-rule
another-other-requires-clause-rule c = splits _ _ c.requires.parts

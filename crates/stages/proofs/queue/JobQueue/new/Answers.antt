use Rattle.stage_model.proofs.Moves.{begins_in_order}
use Rattle.stages.proofs.queue.JobQueue.new.Goals as goal

pub ruled-requires-clause-rule : goal.ruled-requires-clause-rule
ruled-requires-clause-rule c = begins_in_order _

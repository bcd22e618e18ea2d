use Rattle.stages.specs.Queues.{IsPassOf}
use Rattle.live_cases.proofs.queues.work_all.Given as goal

abbrev pub invariant-loop : goal.invariant-loop
invariant-loop g l = IsPassOf l.queue l.pass

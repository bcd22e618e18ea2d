use Rattle.stages.specs.Queues.{IsPassOf}
use Rattle.live_cases.proofs.queues.put_all.Given as goal

abbrev pub invariant-loop-place : goal.invariant-loop-place
invariant-loop-place g l = IsPassOf l.queue l.pass

use Rattle.stages.specs.Queues.{IsPassOf}
use Rattle.live_cases.proofs.queues.drain.Given as goal

abbrev pub invariant-loop : goal.invariant-loop
invariant-loop g l = IsPassOf l.queue l.pass

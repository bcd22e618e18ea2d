use Rattle.stages.specs.Queues.{IsPassOf}
use Rattle.live_cases.proofs.queues.put_each.Given as goal

abbrev pub invariant-loop-digits : goal.invariant-loop-digits
invariant-loop-digits g l = IsPassOf l.queue l.pass

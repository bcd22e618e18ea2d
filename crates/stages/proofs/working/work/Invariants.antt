use Rattle.std.specs.Prelude.{◌≡◌, map}
use Rattle.std.specs.List.{AllByRecursion}
use Rattle.stage_model.specs.Passes.{with_taken}
use Rattle.stages.specs.Queues.{IsPassOf, known, empty_takes}
use Rattle.stages.specs.Results.{job_of, IsDoneBy}
use Rattle.stages.proofs.working.work.Given as goal

-- the pass took the jobs of the results and no others, and no take found the queue empty
abbrev pub invariant-loop : goal.invariant-loop
invariant-loop g l =
    IsPassOf l.queue l.pass
    × (known l.pass ≡ with_taken (known l.fn.pass) (map job_of l.done.items))
    × (empty_takes l.pass ≡ empty_takes l.fn.pass)
    × AllByRecursion (IsDoneBy l.code) l.done.items

-- Queues and their passes, as clauses name them.
use Rattle.std.specs.Prelude.{ℕ}
use Rattle.crossbeam_queue.specs.Passes as passes
use Rattle.stage_model.specs.Passes.{Known}
use Rattle.stages.specs.declared.job.ArchiveJob.{ArchiveJob}
use Rattle.stages.specs.declared.pass.JobPass.{JobPass}
use Rattle.stages.specs.declared.queue.JobQueue.{JobQueue}

-- the pass is one of the queue
abbrev pub IsPassOf : JobQueue → JobPass → Type 0
IsPassOf queue pass = passes.IsPassOf queue.line pass.pass

-- what was put and taken with the pass, and how many parts it has
abbrev pub known : JobPass → Known ArchiveJob
known pass = passes.view pass.pass

-- how many takes with the pass found the queue empty
abbrev pub empty_takes : JobPass → ℕ
empty_takes pass = pass.empty_takes

-- how many jobs the queue has room for
abbrev pub capacity_of : JobQueue → ℕ
capacity_of queue = passes.ruled_capacity queue.line

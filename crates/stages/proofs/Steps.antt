-- What each step of the queue owes.
use Rattle.std.proofs.Common.{◌≡◌, ℕ, ◌<◌, [], ◌∷◌, refl}
use Rattle.crossbeam_queue.specs.Fifo.{Pushes, Pops, Learns, Forks, Merges}
use Rattle.stage_model.specs.Passes.{Known, unused, with_put, with_taken, less_one, both}
use Rattle.stage_model.specs.Rules.{Rule, Moment}
use Rattle.stage_model.proofs.Moves.{put_keeps, take_keeps, split_keeps, join_keeps, is_learned}
use Rattle.stages.specs.declared.job.ArchiveJob.{ArchiveJob}

pub puts : (room at : ℕ) (known : Known ArchiveJob) (job : ArchiveJob) → 0 < known.parts → Pushes (λ items passes. Rule items passes) room at known job (λ after. after ≡ with_put known job)
puts room at known job some_part items passes fits rule there = (with_put known job, put_keeps items passes at known job some_part rule there, refl)

pub takes : (at : ℕ) (known : Known ArchiveJob) → 0 < known.parts → Pops (λ items passes. Rule items passes) at known (λ job after. after ≡ with_taken known (job ∷ []))
takes at known some_part job items passes rule there = (with_taken known (job ∷ []), take_keeps items passes at known job some_part rule there, refl)

pub learns : (at : ℕ) (known : Known ArchiveJob) → Learns (λ items passes. Rule items passes) at known (λ items. Moment items known)
learns at known items passes rule there = is_learned items passes at known rule there

pub splits : (at : ℕ) (known : Known ArchiveJob) → 1 < known.parts → Forks (λ items passes. Rule items passes) at known (less_one known) (unused 1)
splits at known two_parts items passes rule there = split_keeps items passes at known two_parts rule there

pub joins : (at : ℕ) (known : Known ArchiveJob) (seat : ℕ) (other : Known ArchiveJob) → 0 < known.parts → Merges (λ items passes. Rule items passes) at known seat other (both known other) (unused 0)
joins at known seat other some_part items passes rule there apart beside = join_keeps items passes at seat known other some_part rule there apart beside

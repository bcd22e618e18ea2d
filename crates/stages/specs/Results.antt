-- A result beside its job.
use Rattle.std.specs.Prelude.{◌≡◌, map}
use Rattle.cauchy_code.specs.Code.{Parameters}
use Rattle.stages.specs.Rows.{rows_of}
use Rattle.stages.specs.declared.job.ArchiveJob.{ArchiveJob}
use Rattle.stages.specs.declared.job.ArchiveDone.{ArchiveDone}

-- the job of which a result is
abbrev pub job_of : ArchiveDone → ArchiveJob
job_of done = record { place = done.place; label = done.label; version = done.version; strings = done.strings }

-- a result is made by a code: it has the code, and the rows that the code gives of its strings
pub record IsDoneBy (code : Parameters) (done : ArchiveDone) : Type 0 where
  pub same_code : done.code ≡ code
  pub rows : done.rows ≡ map (rows_of code) done.strings

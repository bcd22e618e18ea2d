-- The rule of a queue of jobs, and what it tells a pass.
use Rattle.std.specs.Prelude.{◌≡◌, ℕ, List, ◌++◌, length}
use Rattle.std.specs.List.{AllByRecursion, flat_map, sum_by}
use Rattle.stage_model.specs.Lines.{StandIn, AreSame}
use Rattle.stage_model.specs.Passes.{Known, handled, all_put, all_taken, unused, IsWhole}

-- what was put with a pass stands in the line of all jobs, and what was taken with it in the line of those that were taken
abbrev pub IsInOrder : {Job : Type 0} → List Job → List Job → Known Job → Type 0
IsInOrder line taken known = AllByRecursion (λ jobs. StandIn jobs.put line × StandIn jobs.taken taken) (handled known)

-- a pass with no part has put and taken nothing
abbrev pub IsIdle : {Job : Type 0} → Known Job → Type 0
IsIdle known = known.parts ≡ 0 → known ≡ unused 0

-- all jobs that were put, in the order of putting, are those that were taken, in the order of taking, and then what the queue holds; passes put and took these, each as often and in order
pub record Rule {Job : Type 0} (items : List Job) (passes : List (Known Job)) : Type 0 where
  pub taken : List Job
  pub put_once : AreSame (flat_map all_put passes) (taken ++ items)
  pub taken_once : AreSame (flat_map all_taken passes) taken
  pub in_order : AllByRecursion (IsInOrder (taken ++ items) taken) passes
  pub parts : sum_by (λ known. known.parts) passes ≡ 4
  pub idle : AllByRecursion IsIdle passes

-- at a moment at which the queue held these, what was put and taken with the pass stood in the line of all jobs; of a pass with every part it was all of them
pub record Moment {Job : Type 0} (items : List Job) (known : Known Job) : Type 0 where
  pub taken : List Job
  pub in_order : IsInOrder (taken ++ items) taken known
  pub put_once : IsWhole known → AreSame (all_put known) (taken ++ items)
  pub taken_once : IsWhole known → AreSame (all_taken known) taken

-- at some moment of a call the queue held so many jobs
abbrev pub Held : {Job : Type 0} → ℕ → Known Job → Type 0
Held {Job} count known = (items : List Job) × (length items ≡ count) × Moment items known

-- What a pass of a queue knows, and how it changes.
use Rattle.std.specs.Prelude.{◌≡◌, ℕ, ◌+◌, ◌-◌, ◌^◌, min, List, [], ◌∷◌, ◌++◌}
use Rattle.std.specs.List.{flat_map}

-- the jobs that a pass put and those that it took, each in its order
pub record Handled (Job : Type 0) : Type 0 where
  pub put : List Job
  pub taken : List Job

-- how many of the four parts a pass has, what it put and took itself, and what was put and taken with each pass that was joined into it
pub record Known (Job : Type 0) : Type 0 where
  pub parts : ℕ
  pub own : Handled Job
  pub joined : List (Handled Job)

-- a pass of so many parts that has put and taken nothing
abbrev pub unused : {Job : Type 0} → ℕ → Known Job
unused parts = record { parts = parts; own = record { put = []; taken = [] }; joined = [] }

-- what it put and took itself, and then what the others did
abbrev pub handled : {Job : Type 0} → Known Job → List (Handled Job)
handled known = known.own ∷ known.joined

-- all jobs that were put with a pass
abbrev pub all_put : {Job : Type 0} → Known Job → List Job
all_put known = flat_map (λ jobs. jobs.put) (handled known)

-- all jobs that were taken with a pass
abbrev pub all_taken : {Job : Type 0} → Known Job → List Job
all_taken known = flat_map (λ jobs. jobs.taken) (handled known)

-- a pass with every part
abbrev pub IsWhole : {Job : Type 0} → Known Job → Type 0
IsWhole known = known.parts ≡ 4

-- the pass put one job more
abbrev pub with_put : {Job : Type 0} → Known Job → Job → Known Job
with_put known job =
    record { parts = known.parts; own = record { put = known.own.put ++ job ∷ []; taken = known.own.taken }; joined = known.joined }

-- the pass took these jobs more
abbrev pub with_taken : {Job : Type 0} → Known Job → List Job → Known Job
with_taken known jobs =
    record { parts = known.parts; own = record { put = known.own.put; taken = known.own.taken ++ jobs }; joined = known.joined }

-- the pass gave one of its parts away
abbrev pub less_one : {Job : Type 0} → Known Job → Known Job
less_one known = record { parts = known.parts - 1; own = known.own; joined = known.joined }

-- another pass was joined into the pass
abbrev pub both : {Job : Type 0} → Known Job → Known Job → Known Job
both known other = record { parts = known.parts + other.parts; own = known.own; joined = known.joined ++ handled other }

-- the pass took some jobs more, and nothing else changed
abbrev pub OnlyTook : {Job : Type 0} → Known Job → Known Job → Type 0
OnlyTook {Job} old new = (jobs : List Job) × (new ≡ with_taken old jobs)

-- one more, up to the greatest number of 64 bits
abbrev pub one_more : ℕ → ℕ
one_more count = min (count + 1) (2 ^ 64 - 1)

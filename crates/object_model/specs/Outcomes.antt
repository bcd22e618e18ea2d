-- What becomes of a request after earlier ones: its outcome, and the strings that it names. Lists of requests have the newest first.
-- Throughout, h names byte strings, and block is how many bytes a whole leaf has.
use Rattle.std.specs.Prelude.{ℕ, List, [], ◌∷◌, length}
use Rattle.guarded_update.specs.declared.request.Request.{Request}
use Rattle.object_model.specs.Trees.{version_name, version_strings}
use Rattle.object_model.specs.Updates.{NoClause, OutOfRange, TooLong}
use Rattle.object_model.specs.Folds.{Effect, Makes, Refuses, Repeats, effect, made_by, versions_after}
use Rattle.ring_message.specs.declared.outcome.Outcome.{Outcome}
use Rattle.ring_message.specs.declared.outcome.Outcome.TheVariants as told

-- what a request does after earlier ones
abbrev pub effect_after : (List ℕ → List ℕ) → ℕ → Request → List Request → Effect
effect_after h block request earlier = effect h block request earlier (made_by h block earlier)

-- an effect on an object of these versions, as an outcome
abbrev pub outcome_of : (List ℕ → List ℕ) → ℕ → Effect → List (List ℕ) → Outcome
outcome_of h block (Makes content) versions = told.Made (record { 0 = length versions }) (version_name h block (content ∷ versions))
outcome_of h block (Refuses NoClause) versions = told.NoClause
outcome_of h block (Refuses OutOfRange) versions = told.OutOfRange
outcome_of h block (Refuses TooLong) versions = told.TooLong
outcome_of h block Repeats versions = told.Repeat

-- the strings of the version that an effect makes
abbrev pub strings_of_effect : (List ℕ → List ℕ) → ℕ → Effect → List (List ℕ) → List (List ℕ)
strings_of_effect h block (Makes content) versions = version_strings h block content versions
strings_of_effect h block (Refuses refusal) versions = []
strings_of_effect h block Repeats versions = []

-- the outcome of a request after earlier ones
abbrev pub outcome_after : (List ℕ → List ℕ) → ℕ → Request → List Request → Outcome
outcome_after h block request earlier = outcome_of h block (effect_after h block request earlier) (versions_after h block request.label earlier)

-- the strings that a request names after earlier ones
abbrev pub strings_named : (List ℕ → List ℕ) → ℕ → Request → List Request → List (List ℕ)
strings_named h block request earlier = strings_of_effect h block (effect_after h block request earlier) (versions_after h block request.label earlier)

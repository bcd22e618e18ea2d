-- The laws of the rule.
use Rattle.std.specs.Prelude.{◌≡◌, ◌≢◌, ℕ, ◌<◌, List, [], ◌∷◌, ◌++◌, slice_set}
use mathlib.Core.Option.{some}
use lib.ListN.{get_elem?}
use Rattle.stage_model.specs.Lines.{AreSame}
use Rattle.stage_model.specs.Passes.{Known, all_put, all_taken, unused, with_put, with_taken, less_one, both, IsWhole}
use Rattle.stage_model.specs.Rules.{Rule, Moment, Held}

module _ (Job : Type 0) where
  abbrev pub BeginsInOrder : Type 0
  BeginsInOrder = Rule {Job = Job} [] (unused 4 ∷ [])

  abbrev pub PutKeeps : Type 0
  PutKeeps = (items : List Job) (passes : List (Known Job)) (at : ℕ) (known : Known Job) (job : Job)
      → 0 < known.parts → Rule items passes → get_elem? passes at ≡ some known → Rule (items ++ job ∷ []) (slice_set passes at (with_put known job))

  abbrev pub TakeKeeps : Type 0
  TakeKeeps = (items : List Job) (passes : List (Known Job)) (at : ℕ) (known : Known Job) (job : Job)
      → 0 < known.parts → Rule (job ∷ items) passes → get_elem? passes at ≡ some known → Rule items (slice_set passes at (with_taken known (job ∷ [])))

  abbrev pub SplitKeeps : Type 0
  SplitKeeps = (items : List Job) (passes : List (Known Job)) (at : ℕ) (known : Known Job)
      → 1 < known.parts → Rule items passes → get_elem? passes at ≡ some known → Rule items (slice_set passes at (less_one known) ++ unused 1 ∷ [])

  abbrev pub JoinKeeps : Type 0
  JoinKeeps = (items : List Job) (passes : List (Known Job)) (at there : ℕ) (known other : Known Job)
      → 0 < known.parts → Rule items passes → get_elem? passes at ≡ some known → there ≢ at → get_elem? (slice_set passes at (both known other)) there ≡ some other
      → Rule items (slice_set (slice_set passes at (both known other)) there (unused 0))

  abbrev pub IsLearned : Type 0
  IsLearned = (items : List Job) (passes : List (Known Job)) (at : ℕ) (known : Known Job) → Rule items passes → get_elem? passes at ≡ some known → Moment items known

  abbrev pub AllIsTaken : Type 0
  AllIsTaken = (known : Known Job) → Held 0 known → IsWhole known → AreSame (all_taken known) (all_put known)

use Rattle.std.proofs.Common.{◌≡◌, ℕ, List, ◌∷◌, drop}
use Rattle.cow_tree.specs.Versions.{StandsFor}
use Rattle.object_fold.specs.Choice.{chosen}
use Rattle.object_fold.proofs.choice.choose.Given as goal

abbrev pub invariant-loop-clause : goal.invariant-loop-clause
invariant-loop-clause l = (h : List ℕ → List ℕ) (block : ℕ) (content : List ℕ) (older : List (List ℕ)) → StandsFor h block l.tree content older
    → chosen h block (drop l.clause-index l.clauses) (content ∷ older) ≡ chosen h block l.clauses (content ∷ older)

use Rattle.std.proofs.Common.{◌≡◌, ℕ, List, ◌∷◌, drop}
use Rattle.std.specs.List.{list_all}
use Rattle.object_model.specs.Updates.{holds}
use Rattle.cow_tree.specs.Versions.{StandsFor}
use Rattle.object_fold.proofs.choice.all_hold.Given as goal

abbrev pub invariant-loop-guard : goal.invariant-loop-guard
invariant-loop-guard l = (h : List ℕ → List ℕ) (block : ℕ) (content : List ℕ) (older : List (List ℕ)) → StandsFor h block l.tree content older
    → list_all (holds h block (content ∷ older)) (drop l.guard-index l.guards) ≡ list_all (holds h block (content ∷ older)) l.guards

-- Lists that stand in a line, and lists of the same items.
use Rattle.std.specs.Prelude.{◌≡◌, ◌⊎◌, ℕ, List, [], ◌∷◌}
use Rattle.std.specs.List.{sum_by}

-- the items stand in the line in their order, perhaps with others between them
abbrev pub StandIn : {A : Type 0} → List A → List A → Type 0
StandIn [] line = Unit {0}
StandIn (x ∷ xs) [] = ⊥
StandIn (x ∷ xs) (y ∷ line) = ((x ≡ y) × StandIn xs line) ⊎ StandIn (x ∷ xs) line

-- the lists have the same items, each as often: they weigh the same, whatever each item weighs
abbrev pub AreSame : {A : Type 0} → List A → List A → Type 0
AreSame {A} xs ys = (weight : A → ℕ) → sum_by weight xs ≡ sum_by weight ys

-- What stands in lists.
use Rattle.std.proofs.Common.{zero, suc, ℕ, List, [], ◌∷◌, take, flat_map, Contains, ⊎_elim}
use Rattle.std.specs.List.{AllByRecursion as Each}
use Rattle.std.proofs.lemmas.List.Elements.{Contains-append_cases}
pub use Rattle.pond_world.proofs.Elements.{in_map, in_reverse}
use Rattle.ring_model.proofs.Lists.{there_first, there_later, there_none}

-- what stands in joined lists stands in one of them
pub in_flat : {X Y : Type 0} (f : X → List Y) (xs : List X) (y : Y) → Contains (flat_map f xs) y → (x : X) × Contains xs x × Contains (f x) y
in_flat f [] y c = absurd (there_none y c)
in_flat f (x ∷ xs) y c =
    ⊎_elim (λ d. (x, there_first x xs, d)) (λ d. let rest = in_flat f xs y d in (rest.0, there_later x xs rest.0 rest.1, rest.2)) (Contains-append_cases (f x) (flat_map f xs) y c)

-- each of a list, each of its first ones
pub Each-take : {X : Type 0} (P : X → Type 0) (n : ℕ) (xs : List X) → Each P xs → Each P (take n xs)
Each-take P zero [] h = tt
Each-take P zero (x ∷ xs) h = tt
Each-take P (suc n) [] h = tt
Each-take P (suc n) (x ∷ xs) h = (h.0, Each-take P n xs h.1)

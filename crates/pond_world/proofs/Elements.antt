-- What stands in changed lists.
use Rattle.std.proofs.Common.{◌≡◌, List, [], ◌∷◌, map, reverse, Contains, ⊎_elim, subst}
use Rattle.std.proofs.lemmas.List.{reverse-append}
use Rattle.std.proofs.lemmas.List.Elements.{Contains-append_cases}
use Rattle.ring_model.proofs.Lists.{there_first, there_later, there_cases, there_none}

-- what stands in a changed list was something in the list
pub in_map : {X Y : Type 0} (f : X → Y) (xs : List X) (y : Y) → Contains (map f xs) y → (x : X) × Contains xs x × (f x ≡ y)
in_map f [] y c = absurd (there_none y c)
in_map f (x ∷ xs) y c =
    ⊎_elim (λ e. (x, there_first x xs, e)) (λ d. let rest = in_map f xs y d in (rest.0, there_later x xs rest.0 rest.1, rest.2)) (there_cases (f x) (map f xs) y c)

-- what stands in a list turned round stands in the list
pub in_reverse : {X : Type 0} (xs : List X) (x : X) → Contains (reverse xs) x → Contains xs x
in_reverse [] x c = absurd (there_none x c)
in_reverse (y ∷ xs) x c =
    ⊎_elim (λ d. there_later y xs x (in_reverse xs x d)) (λ d. ⊎_elim (λ e. subst (Contains (y ∷ xs)) e (there_first y xs)) (λ f. absurd (there_none x f)) (there_cases y [] x d))
    (Contains-append_cases (reverse xs) (y ∷ []) x (subst (λ ys. Contains ys x) (reverse-append (y ∷ []) xs) c))

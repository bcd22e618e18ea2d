-- Lists that stand in a line that grows.
use Rattle.std.proofs.Common.{◌≡◌, List, [], ◌∷◌, ◌++◌, inl, inr, ⊎_elim, refl}
use Rattle.stage_model.specs.Lines.{StandIn}

pub stand_push : {A : Type 0} (xs line : List A) (x : A) → StandIn xs line → StandIn (xs ++ x ∷ []) (line ++ x ∷ [])
stand_push [] [] x stand = inl (refl, tt)
stand_push [] (y ∷ line) x stand = inr (stand_push [] line x tt)
stand_push (z ∷ xs) [] x stand = absurd stand
stand_push (z ∷ xs) (y ∷ line) x stand =
    ⊎_elim (λ (here : (z ≡ y) × StandIn xs line). inl (here.0, stand_push xs line x here.1)) (λ (later : StandIn (z ∷ xs) line). inr (stand_push (z ∷ xs) line x later)) stand

pub stand_longer : {A : Type 0} (xs line more : List A) → StandIn xs line → StandIn xs (line ++ more)
stand_longer [] line more stand = tt
stand_longer (z ∷ xs) [] more stand = absurd stand
stand_longer (z ∷ xs) (y ∷ line) more stand =
    ⊎_elim (λ (here : (z ≡ y) × StandIn xs line). inl (here.0, stand_longer xs line more here.1)) (λ (later : StandIn (z ∷ xs) line). inr (stand_longer (z ∷ xs) line more later)) stand

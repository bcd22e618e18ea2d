-- Replicas of which one was changed.
use Rattle.std.proofs.Common.{◌≡◌, ◌<◌, ◌⊎◌, inl, inr, ◌++◌, ℕ, zero, suc, List, [], ◌∷◌, Some, None, length, take, get_or, slice_get, slice_set, refl, ap, sym, subst, ◌∙◌, arith}
use Rattle.std.proofs.lemmas.List.{take_at}
use Rattle.replica_model.specs.Replicas.{Replica, IsForest, IsPlaceOf, parents_of, with_entries, cleared}
use Rattle.replica_model.specs.declared.places.Place.{Place}
use Rattle.replica_model.specs.declared.places.Place.TheVariants.{Replica as At}
use Rattle.dissemination.proofs.Climbing.{count_of}

-- where the one that is changed differs in its cache's entries alone, so do all
pub cleared-set : (replicas : List Replica) (r : ℕ) (it d : Replica) → r < length replicas → with_entries it [] ≡ with_entries (get_or replicas r d) [] → cleared (slice_set replicas r it) ≡ cleared replicas
cleared-set [] r it d l e = absurd (omega arith)
cleared-set (x ∷ xs) zero it d l e = ap (λ (y : Replica). y ∷ cleared xs) e
cleared-set (x ∷ xs) (suc r) it d l e = ap (λ (ys : List Replica). with_entries x [] ∷ ys) (cleared-set xs r it d (omega arith) e)

-- where the one that is changed keeps its parent, all do
pub parents-set : (replicas : List Replica) (r : ℕ) (it d : Replica) → r < length replicas → it.parent ≡ (get_or replicas r d).parent → parents_of (slice_set replicas r it) ≡ parents_of replicas
parents-set [] r it d l e = absurd (omega arith)
parents-set (x ∷ xs) zero it d l e = ap (λ (p : Place). p ∷ parents_of xs) e
parents-set (x ∷ xs) (suc r) it d l e = ap (λ (ps : List Place). x.parent ∷ ps) (parents-set xs r it d (omega arith) e)

place_is : (a b : Place) → Some a ≡ Some b → a ≡ b
place_is a b e = cc

none_some : (b : Place) → None ≡ Some b → ⊥
none_some b e = cc

parent_of_new : (replicas : List Replica) (it : Replica) (r : ℕ) (place : Place) → slice_get (parents_of (replicas ++ it ∷ [])) r ≡ Some place
    → (slice_get (parents_of replicas) r ≡ Some place) ⊎ ((r ≡ length replicas) × (it.parent ≡ place))
parent_of_new [] it zero place e = inr (refl, place_is it.parent place e)
parent_of_new [] it (suc r) place e = absurd (none_some place e)
parent_of_new (x ∷ xs) it zero place e = inl e
parent_of_new (x ∷ xs) it (suc r) place e =
    elim (parent_of_new xs it r place e) as (λ _. (slice_get (parents_of (x ∷ xs)) (suc r) ≡ Some place) ⊎ ((suc r ≡ length (x ∷ xs)) × (it.parent ≡ place))) [ inl a ↦ inl a | inr b ↦ inr (ap suc b.0, b.1) ]

lower : (replicas : List Replica) (parent : Place) (p : ℕ) → IsPlaceOf replicas parent → parent ≡ At p → p < length replicas
lower replicas parent p there is = subst (IsPlaceOf replicas) is there

-- a replica more, below a place that is there
pub forest_more : (replicas now : List Replica) (it : Replica) → now ≡ replicas ++ it ∷ [] → IsForest (parents_of replicas) → IsPlaceOf replicas it.parent → IsForest (parents_of now)
forest_more replicas now it e forest there = subst (λ (g : List Replica). IsForest (parents_of g)) (sym e) (λ r p at.
    elim (parent_of_new replicas it r (At p) at) as (λ _. p < r) [ inl a ↦ forest r p a | inr b ↦ (let l = lower replicas it.parent p there b.1 in omega (arith, l, b.0)) ])

-- replicas that all come back into their vector
pub forest_back : (replicas now rest : List Replica) (n : ℕ) → length replicas ≡ n → parents_of now ≡ parents_of replicas → IsForest (parents_of replicas) → IsForest (parents_of (take n (now ++ rest)))
forest_back replicas now rest n long same forest =
    let all : take n (now ++ rest) ≡ now = take_at now rest n (sym (count_of now) ∙ ap length same ∙ count_of replicas ∙ long) in
    subst (λ (ps : List Place). IsForest ps) (sym (ap parents_of all ∙ same)) forest

-- The places above a replica.
use Rattle.std.proofs.Common.{◌≡◌, ◌<◌, ℕ, zero, suc, List, [], ◌∷◌, Option, Some, None, length, drop, slice_get, refl, ap, ◌∙◌, arith}
use Rattle.replica_model.specs.Replicas.{IsForest, chain_within, chain}
use Rattle.replica_model.specs.declared.places.Place.{Place}
use Rattle.replica_model.specs.declared.places.Place.TheVariants.{Member, Replica as At}

abbrev rest : List Place → ℕ → Option Place → List Place
rest parents steps o = elim o as (λ _. List Place) [ None ↦ [] | Some parent ↦ chain_within parents steps parent ]

same_rest : (parents : List Place) (d e : ℕ) (o : Option Place) → ((p : ℕ) → o ≡ Some (At p) → chain_within parents d (At p) ≡ chain_within parents e (At p)) → rest parents d o ≡ rest parents e o
same_rest parents d e None same = refl
same_rest parents d e (Some (Member member)) same = refl
same_rest parents d e (Some (At p)) same = same p refl

-- more steps than the number of a replica lead no further
pub enough : (parents : List Place) → IsForest parents → (d e r : ℕ) → r < d → r < e → chain_within parents d (At r) ≡ chain_within parents e (At r)
enough parents forest zero e r l k = absurd (omega arith)
enough parents forest (suc d) zero r l k = absurd (omega arith)
enough parents forest (suc d) (suc e) r l k =
    ap (λ places. At r ∷ places) (same_rest parents d e (slice_get parents r) (λ p is. let below : p < r = forest r p is in enough parents forest d e p (omega (arith, below, l)) (omega (arith, below, k))))

below_length : (parents : List Place) (r : ℕ) (parent : Place) → slice_get parents r ≡ Some parent → r < length parents
below_length [] r parent e = cc
below_length (p ∷ ps) zero parent e = omega arith
below_length (p ∷ ps) (suc r) parent e = let l = below_length ps r parent e in omega (arith, l)

steps_less : (n r : ℕ) → r < n → (m : ℕ) × (n ≡ suc m) × (r < suc m)
steps_less zero r l = absurd (omega arith)
steps_less (suc m) r l = (m, refl, l)

-- the chain of a replica goes on with that of its parent
pub goes_up : (parents : List Place) (r : ℕ) (parent : Place) → IsForest parents → slice_get parents r ≡ Some parent → chain parents (At r) ≡ At r ∷ chain parents parent
unfolding chain
goes_up parents r parent forest is =
    let l : r < length parents = below_length parents r parent is in
    let less = steps_less (length parents) r l in
    ap (λ n. chain_within parents n (At r)) less.1 ∙ ap (λ o. At r ∷ rest parents less.0 o) is ∙ ap (λ places. At r ∷ places) (by parent is) where
      by : (place : Place) → slice_get parents r ≡ Some place → chain_within parents (steps_less (length parents) r (below_length parents r parent is)).0 place ≡ chain_within parents (length parents) place
      by (Member member) at = refl
      by (At p) at =
          let below : p < r = forest r p at in
          let l : r < length parents = below_length parents r parent is in
          let less = steps_less (length parents) r l in
          enough parents forest less.0 (length parents) p (omega (arith, below, less.2)) (omega (arith, below, l))

place_first : (parents : List Place) (n : ℕ) (place : Place) → 0 < n → chain_within parents n place ≡ place ∷ drop 1 (chain_within parents n place)
place_first parents n (Member member) some = refl
place_first parents zero (At r) some = absurd (omega arith)
place_first parents (suc n) (At r) some = refl

-- a chain begins with its place
pub chain_begins : (parents : List Place) (place : Place) → 0 < length parents → chain parents place ≡ place ∷ drop 1 (chain parents place)
unfolding chain
chain_begins parents place some = place_first parents (length parents) place some

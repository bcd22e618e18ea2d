-- Sums over a list that changes at one place.
use Rattle.std.proofs.Common.{◌≡◌, ℕ, zero, suc, ◌+◌, ◌≤◌, List, [], ◌∷◌, set, length, sym, refl, ap, arith}
use Rattle.std.specs.List.{AllByRecursion, flat_map, sum_by}
use Rattle.std.proofs.lemmas.List.Sums.{sum_by-cons, sum_by-append}
use mathlib.Core.Option.{some, some-ne-none}
use lib.ListN.{get_elem?}
use Rattle.stage_model.proofs.Lists.{same_item}

pub sum_set : {A : Type 0} (f : A → ℕ) (xs : List A) (i : ℕ) (v w : A) → get_elem? xs i ≡ some v → sum_by f (set xs i w) + f v ≡ sum_by f xs + f w
sum_set f [] i v w at = absurd (some-ne-none v (sym at))
sum_set f (x ∷ xs) zero v w at = omega (arith, ap f (same_item x v at), sum_by-cons f x xs, sum_by-cons f w xs)
sum_set f (x ∷ xs) (suc i) v w at = omega (arith, sum_set f xs i v w at, sum_by-cons f x xs, sum_by-cons f x (set xs i w))

pub sum_flat : {A B : Type 0} (weight : B → ℕ) (f : A → List B) (xs : List A) → sum_by weight (flat_map f xs) ≡ sum_by (λ x. sum_by weight (f x)) xs
sum_flat weight f [] = refl
sum_flat weight f (x ∷ xs) = omega (arith, sum_by-append weight (f x) (flat_map f xs), sum_flat weight f xs, sum_by-cons (λ y. sum_by weight (f y)) x xs)

-- a list that changes at one place, each item of which stands for a list
pub sum_flat_set : {A B : Type 0} (weight : B → ℕ) (f : A → List B) (xs : List A) (i : ℕ) (v w : A) → get_elem? xs i ≡ some v
    → sum_by weight (flat_map f (set xs i w)) + sum_by weight (f v) ≡ sum_by weight (flat_map f xs) + sum_by weight (f w)
sum_flat_set weight f xs i v w at = omega (arith, sum_flat weight f xs, sum_flat weight f (set xs i w), sum_set (λ x. sum_by weight (f x)) xs i v w at)

pub at_most : {A : Type 0} (f : A → ℕ) (xs : List A) (i : ℕ) (v : A) → get_elem? xs i ≡ some v → f v ≤ sum_by f xs
at_most f [] i v at = absurd (some-ne-none v (sym at))
at_most f (x ∷ xs) zero v at = omega (arith, ap f (same_item x v at), sum_by-cons f x xs)
at_most f (x ∷ xs) (suc i) v at = omega (arith, at_most f xs i v at, sum_by-cons f x xs)

-- where all parts add up to 0, a measure that is 0 of each item with no part adds up to 0
none_left : {A : Type 0} (f parts : A → ℕ) (xs : List A) → sum_by parts xs ≡ 0 → AllByRecursion (λ x. parts x ≡ 0 → f x ≡ 0) xs → sum_by f xs ≡ 0
none_left f parts [] none zeros = refl
none_left f parts (x ∷ xs) none zeros =
    let cons = sum_by-cons parts x xs in
    omega (arith, zeros.0 (omega (arith, none, cons)), none_left f parts xs (omega (arith, none, cons)) zeros.1, sum_by-cons f x xs)

-- where one item has all parts, such a measure adds up to that of this item
pub one_whole : {A : Type 0} (f parts : A → ℕ) (xs : List A) (i : ℕ) (v : A) → get_elem? xs i ≡ some v → sum_by parts xs ≡ parts v → AllByRecursion (λ x. parts x ≡ 0 → f x ≡ 0) xs → sum_by f xs ≡ f v
one_whole f parts [] i v at whole zeros = absurd (some-ne-none v (sym at))
one_whole f parts (x ∷ xs) zero v at whole zeros =
    let same = same_item x v at in
    let rest = none_left f parts xs (omega (arith, whole, ap parts same, sum_by-cons parts x xs)) zeros.1 in
    omega (arith, ap f same, sum_by-cons f x xs, rest)
one_whole f parts (x ∷ xs) (suc i) v at whole zeros =
    let cons = sum_by-cons parts x xs in
    let there = at_most parts xs i v at in
    let rest = one_whole f parts xs i v at (omega (arith, whole, cons, there)) zeros.1 in
    omega (arith, zeros.0 (omega (arith, whole, cons, there)), sum_by-cons f x xs, rest)

pub sum_none : {A : Type 0} (f : A → ℕ) (xs : List A) → length xs ≡ 0 → sum_by f xs ≡ 0
sum_none f [] none = refl
sum_none f (x ∷ xs) none = absurd (omega (arith, none))

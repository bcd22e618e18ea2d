-- Facts on each item of a list that changes at one place.
use Rattle.std.proofs.Common.{◌≡◌, ◌≢◌, ℕ, zero, suc, List, [], ◌∷◌, ◌++◌, set, sym, refl, ap, subst}
use Rattle.std.specs.List.{AllByRecursion}
use mathlib.Core.Option.{some, some-ne-none, some_inj}
use lib.ListN.{get_elem?}

pub same_item : {A : Type 0} (x v : A) → some x ≡ some v → x ≡ v
same_item x v at = (some_inj {a = x} {b = v}).0 at

pub all_at : {A : Type 0} (P : A → Type 0) (xs : List A) (i : ℕ) (v : A) → get_elem? xs i ≡ some v → AllByRecursion P xs → P v
all_at P [] i v at all = absurd (some-ne-none v (sym at))
all_at P (x ∷ xs) zero v at all = subst P (same_item x v at) all.0
all_at P (x ∷ xs) (suc i) v at all = all_at P xs i v at all.1

pub all_set : {A : Type 0} (P : A → Type 0) (xs : List A) (i : ℕ) (w : A) → AllByRecursion P xs → P w → AllByRecursion P (set xs i w)
all_set P [] i w all here = tt
all_set P (x ∷ xs) zero w all here = (here, all.1)
all_set P (x ∷ xs) (suc i) w all here = (all.0, all_set P xs i w all.1 here)

pub all_append : {A : Type 0} (P : A → Type 0) (xs ys : List A) → AllByRecursion P xs → AllByRecursion P ys → AllByRecursion P (xs ++ ys)
all_append P [] ys all more = more
all_append P (x ∷ xs) ys all more = (all.0, all_append P xs ys all.1 more)

pub all_map : {A : Type 0} (P Q : A → Type 0) → ((x : A) → P x → Q x) → (xs : List A) → AllByRecursion P xs → AllByRecursion Q xs
all_map P Q f [] all = tt
all_map P Q f (x ∷ xs) all = (f x all.0, all_map P Q f xs all.1)

pub at_else : {A : Type 0} (xs : List A) (i j : ℕ) (w : A) → j ≢ i → get_elem? (set xs i w) j ≡ get_elem? xs j
at_else [] i j w apart = refl
at_else (x ∷ xs) zero zero w apart = absurd (apart refl)
at_else (x ∷ xs) zero (suc j) w apart = refl
at_else (x ∷ xs) (suc i) zero w apart = refl
at_else (x ∷ xs) (suc i) (suc j) w apart = at_else xs i j w (λ same. apart (ap suc same))

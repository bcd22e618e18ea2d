-- Which strings are new.
use Rattle.std.proofs.Common.{◌≡◌, ◌⊎◌, ◌||◌, Bool, true, false, cond, ℕ, List, [], ◌∷◌, refl, ap, sym, ◌∙◌, inl, inr}
use Rattle.std.specs.Str.{bytes_eq}
use Rattle.std.proofs.lemmas.Slice.Eq.{bytes_eq-Decides}
use Rattle.object_model.specs.Laws.{IsOnce}
use Rattle.object_model.specs.Trees.{stands_in, first_times}

or_cases : (a b : Bool) → (a || b) ≡ true → (a ≡ true) ⊎ ((a ≡ false) × (b ≡ true))
or_cases true b h = inl refl
or_cases false b h = inr (refl, h)

same : (x y : List ℕ) → bytes_eq x y ≡ true → x ≡ y
same x y h = (bytes_eq-Decides x y).0 h

new_step : (s x : List ℕ) (known strings : List (List ℕ)) (there : Bool) → stands_in x known ≡ there
    → (stands_in s (first_times known strings) ≡ true → stands_in s known ≡ false)
    → (stands_in s (first_times (x ∷ known) strings) ≡ true → stands_in s (x ∷ known) ≡ false)
    → stands_in s (cond there (first_times known strings) (x ∷ first_times (x ∷ known) strings)) ≡ true → stands_in s known ≡ false
new_step s x known strings true is before more h = before h
new_step s x known strings false is before more h = elim (or_cases (bytes_eq s x) (stands_in s (first_times (x ∷ known) strings)) h) as (λ _. stands_in s known ≡ false) [
  | inl e ↦ ap (λ y. stands_in y known) (same s x e) ∙ is
  | inr p ↦ sym (ap (λ b. b || stands_in s known) p.0) ∙ more p.1
]

-- what is new is not known
pub are_new : (s : List ℕ) (known strings : List (List ℕ)) → stands_in s (first_times known strings) ≡ true → stands_in s known ≡ false
are_new s known [] h = absurd (cc)
are_new s known (x ∷ strings) h = new_step s x known strings (stands_in x known) refl (are_new s known strings) (are_new s (x ∷ known) strings) h

first_covered : (s x : List ℕ) (known strings : List (List ℕ)) (there : Bool) → stands_in x known ≡ there → bytes_eq s x ≡ true
    → (stands_in s known ≡ true) ⊎ (stands_in s (cond there (first_times known strings) (x ∷ first_times (x ∷ known) strings)) ≡ true)
first_covered s x known strings true is e = inl (ap (λ y. stands_in y known) (same s x e) ∙ is)
first_covered s x known strings false is e = inr (ap (λ b. b || stands_in s (first_times (x ∷ known) strings)) e)

rest_covered : (s x : List ℕ) (known strings : List (List ℕ)) (there : Bool) → bytes_eq s x ≡ false
    → (stands_in s known ≡ true) ⊎ (stands_in s (first_times known strings) ≡ true)
    → (stands_in s (x ∷ known) ≡ true) ⊎ (stands_in s (first_times (x ∷ known) strings) ≡ true)
    → (stands_in s known ≡ true) ⊎ (stands_in s (cond there (first_times known strings) (x ∷ first_times (x ∷ known) strings)) ≡ true)
rest_covered s x known strings true other before more = before
rest_covered s x known strings false other before (inl h) = inl (sym (ap (λ b. b || stands_in s known) other) ∙ h)
rest_covered s x known strings false other before (inr h) = inr (ap (λ b. b || stands_in s (first_times (x ∷ known) strings)) other ∙ h)

-- what is in a list is known or new
pub are_covered : (s : List ℕ) (known strings : List (List ℕ)) → stands_in s strings ≡ true → (stands_in s known ≡ true) ⊎ (stands_in s (first_times known strings) ≡ true)
are_covered s known [] h = absurd (cc)
are_covered s known (x ∷ strings) h = elim (or_cases (bytes_eq s x) (stands_in s strings) h) as (λ _. (stands_in s known ≡ true) ⊎ (stands_in s (first_times known (x ∷ strings)) ≡ true)) [
  | inl e ↦ first_covered s x known strings (stands_in x known) refl e
  | inr p ↦ rest_covered s x known strings (stands_in x known) p.0 (are_covered s known strings p.1) (are_covered s (x ∷ known) strings p.1)
]

itself : (x : List ℕ) → bytes_eq x x ≡ true
itself x = (bytes_eq-Decides x x).1 refl

-- what is known already is not new
not_new : (x : List ℕ) (known strings : List (List ℕ)) (there : Bool) → stands_in x (first_times (x ∷ known) strings) ≡ there → there ≡ false
not_new x known strings false is = refl
not_new x known strings true is = absurd (differ (ap (λ b. b || stands_in x known) (sym (itself x)) ∙ are_new x (x ∷ known) strings is))
  where
    differ : true ≡ false → ⊥
    differ e = absurd (cc)

once_step : (x : List ℕ) (known strings : List (List ℕ)) (there : Bool) → IsOnce (first_times known strings) → IsOnce (first_times (x ∷ known) strings)
    → IsOnce (cond there (first_times known strings) (x ∷ first_times (x ∷ known) strings))
once_step x known strings true before more = before
once_step x known strings false before more = (not_new x known strings (stands_in x (first_times (x ∷ known) strings)) refl, more)

-- what is new is listed once
pub are_once : (known strings : List (List ℕ)) → IsOnce (first_times known strings)
are_once known [] = tt
are_once known (x ∷ strings) = once_step x known strings (stands_in x known) (are_once known strings) (are_once (x ∷ known) strings)

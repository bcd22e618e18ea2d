-- The versions of an object among those that were made.
use Rattle.std.proofs.Common.{◌≡◌, Bool, true, false, cond, ℕ, List, [], ◌∷◌, ◌++◌, map, filter, drop, refl}
use Rattle.std.specs.Str.{bytes_eq}
use Rattle.object_model.specs.Updates.{newest}
use Rattle.object_model.specs.Folds.{Made, versions_of}

split_end : (xs : List (List ℕ)) (x : List ℕ) → xs ++ x ∷ [] ≡ newest (xs ++ x ∷ []) ∷ drop 1 (xs ++ x ∷ [])
split_end [] x = refl
split_end (y ∷ ys) x = refl

-- each object has a newest version, over the older ones
pub split : (label : List ℕ) (made : List Made) → versions_of label made ≡ newest (versions_of label made) ∷ drop 1 (versions_of label made)
split label made = split_end (map (λ (m : Made). m.content) (filter (λ (m : Made). bytes_eq m.label label) made)) []

-- one more version of one object
pub one_more : (label own content : List ℕ) (made : List Made) → versions_of label (record { label = own; content = content } ∷ made) ≡ cond (bytes_eq own label) (content ∷ versions_of label made) (versions_of label made)
one_more label own content made =
    let rest : List Made = filter (λ (m : Made). bytes_eq m.label label) made in
    elim (bytes_eq own label) as (λ b. map (λ (m : Made). m.content) (cond b (record { label = own; content = content } ∷ filter (λ (m : Made). bytes_eq m.label label) made) (filter (λ (m : Made). bytes_eq m.label label) made)) ++ [] ∷ []
    ≡ cond b (content ∷ versions_of label made) (versions_of label made)) [ true ↦ refl | false ↦ refl ]

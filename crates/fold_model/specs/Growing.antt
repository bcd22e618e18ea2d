-- What was made stays made.
use Rattle.std.specs.Prelude.{◌≡◌, ℕ, List, [], ◌∷◌, ◌++◌, map, reverse, refl}
use Rattle.std.proofs.Common.{ap, sym, subst, ◌∙◌, append_assoc, append-nil}
use Rattle.std.proofs.lemmas.List.{map-append, reverse-append}
use Rattle.guarded_update.specs.declared.request.Request.{Request}
use Rattle.object_model.specs.Folds.{Made, Effect, Makes, Refuses, Repeats, effect, with_effect, made_by}
use Rattle.message_model.specs.Requests.{request_at}
use Rattle.ring_model.specs.Messages.{Mark}
use Rattle.fold_model.specs.Folds.{Archiving, requests_of, seal_of, seals_of, seals_by}

-- the requests of two lists are those of the second one before those of the first
pub requests-append : (xs ys : List (List ℕ)) → requests_of (xs ++ ys) ≡ requests_of ys ++ requests_of xs
requests-append xs ys = ap reverse (map-append request_at xs ys) ∙ reverse-append (map request_at xs) (map request_at ys)

-- an effect adds in front of what was made
abbrev pub IsAdded : List Made → List Made → Type 0
IsAdded made now = (newer : List Made) × (now ≡ newer ++ made)

pub effect_adds : (label : List ℕ) (e : Effect) (made : List Made) → IsAdded made (with_effect label e made)
effect_adds label (Makes content) made = (record { label = label; content = content } ∷ [], refl)
effect_adds label (Refuses refusal) made = ([], refl)
effect_adds label Repeats made = ([], refl)

-- so do requests
pub requests_add : (h : List ℕ → List ℕ) (block : ℕ) (late earlier : List Request) → IsAdded (made_by h block earlier) (made_by h block (late ++ earlier))
requests_add h block [] earlier = ([], refl)
requests_add h block (r ∷ late) earlier =
    let before = requests_add h block late earlier in
    let made = made_by h block (late ++ earlier) in
    let now = effect_adds r.label (effect h block r (late ++ earlier) made) made in
    (now.0 ++ before.0, now.1 ∙ ap (λ ms. now.0 ++ ms) before.1 ∙ sym (append_assoc now.0 before.0 (made_by h block earlier)))

-- seals of more versions begin with those of the older ones
abbrev pub BeginsWith : List Mark → List Mark → Type 0
BeginsWith marks now = (rest : List Mark) × (marks ++ rest ≡ now)

pub seals_begin : (h : List ℕ → List ℕ) (archiving : Archiving) (newer made : List Made) → BeginsWith (seals_of h archiving made) (seals_of h archiving (newer ++ made))
seals_begin h archiving [] made = ([], append-nil (seals_of h archiving made))
seals_begin h archiving (m ∷ newer) made =
    let before = seals_begin h archiving newer made in
    let mark = seal_of h archiving m (newer ++ made) in
    (before.0 ++ mark ∷ [], sym (append_assoc (seals_of h archiving made) before.0 (mark ∷ [])) ∙ ap (λ marks. marks ++ mark ∷ []) before.1)

-- what was sealed stays sealed
pub seals_stay : (h : List ℕ → List ℕ) (block : ℕ) (archiving : Archiving) (xs ys : List (List ℕ)) → BeginsWith (seals_by h block archiving xs) (seals_by h block archiving (xs ++ ys))
seals_stay h block archiving xs ys =
    let more = requests_add h block (requests_of ys) (requests_of xs) in
    let now : made_by h block (requests_of (xs ++ ys)) ≡ more.0 ++ made_by h block (requests_of xs) = ap (made_by h block) (requests-append xs ys) ∙ more.1 in
    subst (λ made. BeginsWith (seals_by h block archiving xs) (seals_of h archiving made)) (sym now) (seals_begin h archiving more.0 (made_by h block (requests_of xs)))

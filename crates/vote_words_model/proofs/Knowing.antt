-- What a seat knows after a step.
use Rattle.std.proofs.Common.{◌≡◌, ◌≢◌, ℕ, ◌≤◌, ⊎_elim, Bool, true, false, cond, ◌==◌, ◌&&◌, ◌||◌, List, [], ◌∷◌, ◌++◌, refl, sym, ap, ◌∙◌}
use Rattle.std.specs.Prelude.{slice_index}
use Rattle.std.proofs.lemmas.Bool.{eqb-true, eq-eqb, ne_eqb, or_cases, or_left, or_right, and_from, and_left, false≢true}
use Rattle.vote_words_model.specs.declared.View.{View}
use Rattle.vote_words_model.specs.Views.{has_pair, knows, IsSound, count_known, learnt}
use Rattle.vote_words_model.specs.Steps.{Stands, count_standing}
use Rattle.vote_words_model.proofs.Counting.{count_by-le-count_by}
use Rattle.vote_words_model.proofs.Standing.{standing}

pub has_pair-append_left : (known more : List (ℕ × ℕ)) (word value : ℕ) → has_pair known word value ≡ true → has_pair (known ++ more) word value ≡ true
has_pair-append_left [] more word value e = absurd (false≢true e)
has_pair-append_left (p ∷ known) more word value e =
    let t = (p.0 == word) && (p.1 == value) in
    ⊎_elim (λ (here : t ≡ true). or_left t (has_pair (known ++ more) word value) here)
    (λ (later : has_pair known word value ≡ true). or_right t (has_pair (known ++ more) word value) (has_pair-append_left known more word value later))
    (or_cases t (has_pair known word value) e)

pub has_pair-append_right : (known more : List (ℕ × ℕ)) (word value : ℕ) → has_pair more word value ≡ true → has_pair (known ++ more) word value ≡ true
has_pair-append_right [] more word value e = e
has_pair-append_right (p ∷ known) more word value e = or_right ((p.0 == word) && (p.1 == value)) (has_pair (known ++ more) word value) (has_pair-append_right known more word value e)

-- the pair that was added last is had
pub has_pair-push : (known : List (ℕ × ℕ)) (word value : ℕ) → has_pair (known ++ (word, value) ∷ []) word value ≡ true
has_pair-push known word value =
    has_pair-append_right known ((word, value) ∷ []) word value (or_left ((word == word) && (value == value)) false (and_from (word == word) (value == value) (eq-eqb word word refl) (eq-eqb value value refl)))

-- a pair of another word changes nothing
pub has_pair-push_other : (known : List (ℕ × ℕ)) (other found word value : ℕ) → other ≢ word → has_pair (known ++ (other, found) ∷ []) word value ≡ has_pair known word value
has_pair-push_other [] other found word value apart = ap (λ b. b || false) (and_left (other == word) (found == value) (ne_eqb other word apart))
has_pair-push_other (p ∷ known) other found word value apart = ap (λ b. ((p.0 == word) && (p.1 == value)) || b) (has_pair-push_other known other found word value apart)

-- nor does what was learnt of another word
pub has_pair-learnt_other : (known : List (ℕ × ℕ)) (other found word value : ℕ) → other ≢ word → has_pair (learnt known other found) word value ≡ has_pair known word value
has_pair-learnt_other known other found word value apart = at (found == 0)
  where
    at : (b : Bool) → has_pair (cond b known (known ++ (other, found) ∷ [])) word value ≡ has_pair known word value
    at true = refl
    at false = has_pair-push_other known other found word value apart

-- what was found is known
pub has_pair-learnt : (known : List (ℕ × ℕ)) (word found : ℕ) → found ≢ 0 → has_pair (learnt known word found) word found ≡ true
has_pair-learnt known word found full = at (found == 0) refl
  where
    at : (b : Bool) → (found == 0) ≡ b → has_pair (cond b known (known ++ (word, found) ∷ [])) word found ≡ true
    at true e = absurd (full (eqb-true found 0 e))
    at false e = has_pair-push known word found

-- what stands is sound
pub IsSound-standing : (words : List ℕ) (v : View) → Stands words v.known → IsSound v
IsSound-standing words v h word x y kx ky =
    let a = standing words v.known h word x kx in
    let b = standing words v.known h word y ky in
    (a.0, sym a.1 ∙ b.1)

-- a value is known no more often than it stands
pub known_stands : (words : List ℕ) (v : View) → Stands words v.known → (value : ℕ) (places : List ℕ) → count_known v places value ≤ count_standing words places value
known_stands words v h value places =
    count_by-le-count_by (λ i. knows v i value) (λ i. slice_index words i == value) (λ i e. eq-eqb (slice_index words i) value (standing words v.known h i value e).1) places

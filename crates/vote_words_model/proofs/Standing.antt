-- Words after one of them is written, and what stands in them.
use Rattle.std.proofs.Common.{◌≡◌, ◌≢◌, ℕ, ◌<◌, ◌≤◌, ⊎_elim, Bool, true, false, cond, ◌==◌, ◌&&◌, List, [], ◌∷◌, ◌++◌, length, set, refl, sym, ap, ◌∙◌, subst}
use Rattle.std.specs.Prelude.{slice_index}
use Rattle.std.proofs.lemmas.Bool.{eqb-true, eqb-false, eq-eqb, cases_eq, and_parts, or_cases, false≢true}
use Rattle.std.proofs.lemmas.List.{get_or-set_same, get_or-set_other}
use Rattle.vote_words_model.specs.Views.{has_pair, learnt, stood}
use Rattle.vote_words_model.specs.Steps.{Stands, count_standing}
use Rattle.vote_words_model.proofs.Counting.{count_by-le-count_by}

-- what an exchange from 0 leaves, by cases on what it found
pub stood_cases : (value found : ℕ) (P : ℕ → Type 0) → (found ≡ 0 → P value) → (found ≢ 0 → P found) → P (stood value found)
stood_cases value found P none some = at (found == 0) refl
  where
    at : (b : Bool) → (found == 0) ≡ b → P (cond b value found)
    at true e = none (eqb-true found 0 e)
    at false e = some (eqb-false found 0 e)

-- a word after one is written, by cases on which one it is
pub written_cases : (words : List ℕ) (i y k : ℕ) (P : ℕ → Type 0) → i < length words → (k ≡ i → P y) → (k ≢ i → P (slice_index words k)) → P (slice_index (set words i y) k)
written_cases words i y k P within here there =
    ⊎_elim (λ (same : k ≡ i). subst P (sym (ap (slice_index (set words i y)) same ∙ get_or-set_same words i y 0 within)) (here same))
    (λ (apart : k ≢ i). subst P (sym (get_or-set_other words i k y 0 apart)) (there apart))
    (cases_eq k i)

-- Words that are not 0 are the same.
abbrev pub Stays : List ℕ → List ℕ → Type 0
Stays words later = (i : ℕ) → slice_index words i ≢ 0 → slice_index later i ≡ slice_index words i

-- an exchange from 0 leaves each word that is not 0
pub Stays-exchange : (words : List ℕ) (i value : ℕ) → i < length words → Stays words (set words i (stood value (slice_index words i)))
Stays-exchange words i value within k full =
    written_cases words i (stood value (slice_index words i)) k (λ y. y ≡ slice_index words k) within
    (λ same. let here : slice_index words i ≡ slice_index words k = ap (slice_index words) (sym same) in
    stood_cases value (slice_index words i) (λ y. y ≡ slice_index words k) (λ none. absurd (full (sym here ∙ none))) (λ _. here))
    (λ _. refl)

pub Stands-stays : (words later : List ℕ) → Stays words later → (known : List (ℕ × ℕ)) → Stands words known → Stands later known
Stands-stays words later stays [] h = tt
Stands-stays words later stays (p ∷ known) h = (h.0, stays p.0 (λ none. h.0 (sym h.1 ∙ none)) ∙ h.1, Stands-stays words later stays known h.2)

pub Stands-append : (words : List ℕ) (known more : List (ℕ × ℕ)) → Stands words known → Stands words more → Stands words (known ++ more)
Stands-append words [] more h m = m
Stands-append words (p ∷ known) more h m = (h.0, h.1, Stands-append words known more h.2 m)

-- what was found in a word stands in it
pub Stands-learnt : (words : List ℕ) (known : List (ℕ × ℕ)) (word : ℕ) → Stands words known → Stands words (learnt known word (slice_index words word))
Stands-learnt words known word h = at (slice_index words word == 0) refl
  where
    at : (b : Bool) → (slice_index words word == 0) ≡ b → Stands words (cond b known (known ++ (word, slice_index words word) ∷ []))
    at true e = h
    at false e = Stands-append words known ((word, slice_index words word) ∷ []) h (eqb-false (slice_index words word) 0 e, refl, tt)

-- what is known of a word stands in it
pub standing : (words : List ℕ) (known : List (ℕ × ℕ)) → Stands words known → (word value : ℕ) → has_pair known word value ≡ true → (value ≢ 0) × (slice_index words word ≡ value)
standing words [] h word value e = absurd (false≢true e)
standing words (p ∷ known) h word value e =
    ⊎_elim
    (λ (here : ((p.0 == word) && (p.1 == value)) ≡ true).
    let both = and_parts (p.0 == word) (p.1 == value) here in
    let is_word : p.0 ≡ word = eqb-true p.0 word both.0 in
    let is_value : p.1 ≡ value = eqb-true p.1 value both.1 in
    ((λ none. h.0 (is_value ∙ none)), sym (ap (slice_index words) is_word) ∙ h.1 ∙ is_value))
    (λ (later : has_pair known word value ≡ true). standing words known h.2 word value later)
    (or_cases ((p.0 == word) && (p.1 == value)) (has_pair known word value) e)

-- a value that is not 0 stands as often later
pub standing_stays : (words later : List ℕ) → Stays words later → (value : ℕ) → value ≢ 0 → (places : List ℕ) → count_standing words places value ≤ count_standing later places value
standing_stays words later stays value full places =
    count_by-le-count_by (λ i. slice_index words i == value) (λ i. slice_index later i == value)
    (λ i e. let is : slice_index words i ≡ value = eqb-true (slice_index words i) value e in eq-eqb (slice_index later i) value (stays i (λ none. full (sym is ∙ none)) ∙ is)) places

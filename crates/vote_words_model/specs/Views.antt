-- What a seat knows, and what it has decided.
use Rattle.std.specs.Prelude.{◌≡◌, ◌≢◌, ℕ, ◌≤◌, Bool, true, ◌&&◌, ◌==◌, if◌then◌else◌, List, [], ◌∷◌, ◌++◌, count_by}
use Rattle.std.specs.List.{list_any}
use Rattle.vote_words_model.specs.declared.Terms.{Terms}
use Rattle.vote_words_model.specs.declared.View.{View}
use Rattle.vote_words_model.specs.Places.{quorum, prepare_words, commit_words}

-- where nothing is known
abbrev pub blank : View
blank = record { known = []; loads = []; sets = [] }

-- whether these pairs have a word with a value
abbrev pub has_pair : List (ℕ × ℕ) → ℕ → ℕ → Bool
has_pair known word value = list_any (λ p. (p.0 == word) && (p.1 == value)) known

-- whether a word is known with a value
abbrev pub knows : View → ℕ → ℕ → Bool
knows v word value = has_pair v.known word value

-- how many of some words are known with a value
abbrev pub count_known : View → List ℕ → ℕ → ℕ
count_known v words value = count_by (λ word. knows v word value) words

-- A value is known in 2f+1 of the slot's prepare words.
abbrev pub IsPrepared : Terms → View → ℕ → ℕ → Type 0
IsPrepared t v slot value = quorum t ≤ count_known v (prepare_words t slot) value

-- A seat has decided a value for a slot where it knows it in 2f+1 of the slot's commit words.
abbrev pub IsDecided : Terms → View → ℕ → ℕ → Type 0
IsDecided t v slot value = quorum t ≤ count_known v (commit_words t slot) value

-- No word is known with 0, and none with two values.
abbrev pub IsSound : View → Type 0
IsSound v = (word x y : ℕ) → knows v word x ≡ true → knows v word y ≡ true → (x ≢ 0) × (x ≡ y)

-- No two values are decided for a slot.
abbrev pub DecidesOnce : Terms → View → Type 0
DecidesOnce t v = (slot x y : ℕ) → IsDecided t v slot x → IsDecided t v slot y → x ≡ y

-- what is known once a word was found with a number: a pair more where it is not 0
abbrev pub learnt : List (ℕ × ℕ) → ℕ → ℕ → List (ℕ × ℕ)
learnt known word found = if found == 0 then known else known ++ (word, found) ∷ []

-- the view after a load that found a number
abbrev pub loaded : View → ℕ → ℕ → View
loaded v word found = record { known = learnt v.known word found; loads = v.loads ++ word ∷ []; sets = v.sets }

-- what stands in a word after an exchange from 0 to a value
abbrev pub stood : ℕ → ℕ → ℕ
stood value found = if found == 0 then value else found

-- the view after an exchange from 0 to a value: the word is known as it stands, and was set where 0 was found
abbrev pub exchanged : View → ℕ → ℕ → ℕ → View
exchanged v word value found = record { known = v.known ++ (word, stood value found) ∷ []; loads = v.loads; sets = if found == 0 then v.sets ++ word ∷ [] else v.sets }

-- the view of a seat that takes another's in
abbrev pub joined : View → View → View
joined v w = record { known = v.known ++ w.known; loads = v.loads; sets = v.sets }

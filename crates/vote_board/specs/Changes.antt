-- How what a seat knows changes in a call.
use Rattle.std.specs.Prelude.{◌≡◌, ◌≢◌, ℕ, ◌+◌, ◌<◌, ◌==◌, Bool, if◌then◌else◌, List, [], ◌∷◌, ◌++◌, slice_index}
use Rattle.vote_words_model.specs.declared.Terms.{Terms}
use Rattle.vote_words_model.specs.declared.View.{View}
use Rattle.vote_words_model.specs.Views.{knows, IsPrepared, IsDecided}

-- The list of loads grows by these words.
abbrev pub LoadsWords : View → View → List ℕ → Type 0
LoadsWords v w words = w.loads ≡ v.loads ++ words

-- The list of set words grows by this word where the vote was set, and else stays.
abbrev pub SetsWord : View → View → ℕ → Bool → Type 0
SetsWord v w word is_set = w.sets ≡ (if is_set then v.sets ++ word ∷ [] else v.sets)

-- A word becomes known with a value, and nothing else does.
abbrev pub LearnsWord : View → View → ℕ → ℕ → Type 0
LearnsWord v w word value = w.known ≡ v.known ++ (word, value) ∷ []

-- What was known stays known.
abbrev pub Remembers : View → View → Type 0
Remembers v w = (more : List (ℕ × ℕ)) × (w.known ≡ v.known ++ more)

-- The words from one on are known just as they were found, up to a count of them.
abbrev pub ShowsTo : View → ℕ → List ℕ → ℕ → Type 0
ShowsTo v from found count = (k x : ℕ) → k < count → x ≢ 0 → knows v (from + k) x ≡ (slice_index found k == x)

-- No value is known in 2f+1 of the slot's prepare words.
abbrev pub NonePrepared : Terms → View → ℕ → Type 0
NonePrepared t v slot = (x : ℕ) → ¬ IsPrepared t v slot x

-- No value is decided for the slot.
abbrev pub NoneDecided : Terms → View → ℕ → Type 0
NoneDecided t v slot = (x : ℕ) → ¬ IsDecided t v slot x

-- What either has decided for a slot is one value.
abbrev pub DecideAlike : Terms → View → View → Type 0
DecideAlike t v w = (slot x y : ℕ) → IsDecided t v slot x → IsDecided t w slot y → x ≡ y

-- What is claimed of every board.
use Rattle.std.specs.Prelude.{◌≡◌, ◌≢◌, ℕ, ◌<◌, List, ◌++◌, length, slice_index, All}
use Rattle.vote_words_model.specs.declared.Terms.{Terms}
use Rattle.vote_words_model.specs.declared.View.{View}
use Rattle.vote_words_model.specs.Places.{commit_word, IsPlace}
use Rattle.vote_words_model.specs.Views.{IsSound, IsDecided, DecidesOnce}
use Rattle.vote_words_model.specs.Steps.{Board, IsKept, Kind, MayStep, happens, opening, view_at, Event, board, IsSchedule}

-- The opening board keeps the rule.
abbrev pub OpeningIsKept : Type 0
OpeningIsKept = (t : Terms) → IsKept t (opening t)

-- Each step keeps it.
abbrev pub StepsKeep : Type 0
StepsKeep = (t : Terms) (b : Board) (seat : ℕ) (kind : Kind) → IsKept t b → seat < length b.views → MayStep t b seat kind → IsKept t (happens t b seat kind)

-- A word that is not 0 stays as it is.
abbrev pub WordsStay : Type 0
WordsStay = (t : Terms) (b : Board) (seat : ℕ) (kind : Kind) → IsKept t b → seat < length b.views → MayStep t b seat kind
    → (word : ℕ) → slice_index b.words word ≢ 0 → slice_index (happens t b seat kind).words word ≡ slice_index b.words word

-- Two commit words of a slot that are not 0 are equal.
abbrev pub CommitsAgree : Type 0
CommitsAgree = (t : Terms) (b : Board) (slot i j : ℕ) → IsKept t b → IsPlace t slot i → IsPlace t slot j
    → slice_index b.words (commit_word t slot i) ≢ 0 → slice_index b.words (commit_word t slot j) ≢ 0
    → slice_index b.words (commit_word t slot i) ≡ slice_index b.words (commit_word t slot j)

-- Under the rule each view is sound.
abbrev pub ViewsAreSound : Type 0
ViewsAreSound = (t : Terms) (b : Board) → IsKept t b → All IsSound b.views

-- A sound view has decided one value for a slot.
abbrev pub DecidesOne : Type 0
DecidesOne = (t : Terms) (v : View) → IsSound v → DecidesOnce t v

-- What one seat has decided after some steps of a schedule is what another has after more of them.
abbrev pub AllDecideOne : Type 0
AllDecideOne = (t : Terms) (newer older : List Event) → IsSchedule t (newer ++ older) → (p q slot x y : ℕ)
    → p < length (board t older).views → IsDecided t (view_at (board t older) p) slot x
    → q < length (board t (newer ++ older)).views → IsDecided t (view_at (board t (newer ++ older)) q) slot y
    → x ≡ y

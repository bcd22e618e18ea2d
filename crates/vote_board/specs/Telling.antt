-- The rule of the words of a board, and what a step on one of them tells the seat that takes it.
use Rattle.std.specs.Prelude.{◌≡◌, ◌≢◌, ℕ, ◌^◌, ◌<◌, true}
use Rattle.atomic_table.specs.Table.{State, Step, Me}
use Rattle.vote_words_model.specs.declared.Terms.{Terms}
use Rattle.vote_words_model.specs.declared.View.{View}
use Rattle.vote_words_model.specs.Views.{knows, IsSound, loaded, exchanged}
use Rattle.vote_words_model.specs.Steps.{Board, IsKept}

-- the words of a table and the views of its seats, as a board
abbrev pub board_of : {S : Type 0} → State S View → Board
board_of s = record { words = s.words; views = s.views }

-- The rule is that of the model.
abbrev pub Holds : {S : Type 0} → Terms → State S View → Type 0
Holds t s = IsKept t (board_of s)

-- A load tells what was found: afterwards the word is known with that number and no other, or is not known where it is 0.
pub record TellsLoad {S : Type 0} (s : Step S) (me : Me S View) (found : ℕ) (me' : Me S View) : Type 0 where
  pub view : me'.0 ≡ loaded me.0 s.word found
  pub slots : me'.1 ≡ me.1
  pub small : found < 2 ^ 32
  pub sound : IsSound me'.0
  pub shown : (x : ℕ) → knows me'.0 s.word x ≡ true → x ≡ found

-- An exchange from 0 tells what was found.
pub record TellsExchange {S : Type 0} (s : Step S) (me : Me S View) (found : ℕ) (me' : Me S View) : Type 0 where
  pub view : me'.0 ≡ exchanged me.0 s.word s.second found
  pub slots : me'.1 ≡ me.1
  pub small : found < 2 ^ 32
  pub sound : IsSound me'.0

-- That of a commit word found 0 or the very value.
pub record TellsCommit {S : Type 0} (s : Step S) (me : Me S View) (found : ℕ) (me' : Me S View) : Type 0 where
  pub view : me'.0 ≡ exchanged me.0 s.word s.second found
  pub slots : me'.1 ≡ me.1
  pub same : found ≢ 0 → found ≡ s.second
  pub sound : IsSound me'.0

-- A load of word 0 tells no more than that what is known is sound.
pub record TellsNothing {S : Type 0} (s : Step S) (me : Me S View) (found : ℕ) (me' : Me S View) : Type 0 where
  pub view : me'.0 ≡ me.0
  pub slots : me'.1 ≡ me.1
  pub sound : IsSound me'.0

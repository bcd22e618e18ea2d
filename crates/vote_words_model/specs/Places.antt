-- How many members and words a board has, and where its words stand: word 0, the prepare words, the commit words.
use Rattle.std.specs.Prelude.{◌≡◌, ℕ, ◌+◌, ◌-◌, ◌*◌, ◌<◌, ◌≤◌, ◌⊎◌, List, length, slice_index}
use Rattle.std.specs.List.{range_with_len}
use Rattle.vote_words_model.specs.declared.Terms.{Terms}

-- terms with these parts
abbrev pub terms_of : ℕ → ℕ → List ℕ → Terms
terms_of f slots may = record { f = f; slots = slots; may = may }

-- how many members there are
abbrev pub size : Terms → ℕ
size t = 3 * t.f + 1

-- how many of them are a quorum
abbrev pub quorum : Terms → ℕ
quorum t = 2 * t.f + 1

-- how many prepare words there are, and as many commit words
abbrev pub votes : Terms → ℕ
votes t = size t * t.slots

-- how many words there are
abbrev pub word_count : Terms → ℕ
word_count t = 1 + votes t + votes t

-- the place of a member of a slot among all, slot after slot
abbrev pub place : Terms → ℕ → ℕ → ℕ
place t slot member = (slot - 1) * size t + member

-- a member's prepare word for a slot
abbrev pub prepare_word : Terms → ℕ → ℕ → ℕ
prepare_word t slot member = 1 + place t slot member

-- a member's commit word for a slot
abbrev pub commit_word : Terms → ℕ → ℕ → ℕ
commit_word t slot member = 1 + votes t + place t slot member

-- a slot's prepare words, member after member
abbrev pub prepare_words : Terms → ℕ → List ℕ
prepare_words t slot = range_with_len (prepare_word t slot 0) (size t)

-- a slot's commit words, member after member
abbrev pub commit_words : Terms → ℕ → List ℕ
commit_words t slot = range_with_len (commit_word t slot 0) (size t)

-- There are at most ten members, 1 to 64 slots, and a number for each member of each slot.
pub record Fits (t : Terms) : Type 0 where
  pub few_members : t.f ≤ 3
  pub some_slots : 1 ≤ t.slots
  pub few_slots : t.slots ≤ 64
  pub numbers : length t.may ≡ votes t

-- Slots are counted from 1.
abbrev pub IsSlot : Terms → ℕ → Type 0
IsSlot t slot = (1 ≤ slot) × (slot ≤ t.slots)

-- A slot of the board, and a member.
abbrev pub IsPlace : Terms → ℕ → ℕ → Type 0
IsPlace t slot member = IsSlot t slot × (member < size t)

-- At a place whose number is 0 every value may be prepared, and else that number alone.
abbrev pub May : Terms → ℕ → ℕ → Type 0
May t at value = (slice_index t.may at ≡ 0) ⊎ (slice_index t.may at ≡ value)

-- The six kinds of step, and the rule that each of them keeps.
use Rattle.std.specs.Prelude.{◌≡◌, ◌≢◌, ℕ, ◌+◌, ◌^◌, ◌<◌, ◌≤◌, ◌==◌, List, [], ◌∷◌, ◌++◌, length, slice_index, slice_index_or, slice_set, replicate, count_by, All}
use Rattle.vote_words_model.specs.declared.Terms.{Terms}
use Rattle.vote_words_model.specs.declared.View.{View}
use Rattle.vote_words_model.specs.Places.{quorum, votes, word_count, place, prepare_word, commit_word, prepare_words, IsPlace, May}
use Rattle.vote_words_model.specs.Views.{blank, IsPrepared, loaded, stood, exchanged, joined}

-- The words of a board, and the view of each seat.
pub record Board : Type 0 where
  pub words : List ℕ
  pub views : List View

-- a board without votes, with one seat
abbrev pub opening : Terms → Board
opening t = record { words = replicate (word_count t) 0; views = blank ∷ [] }

-- a seat's view
abbrev pub view_at : Board → ℕ → View
view_at b seat = slice_index_or b.views seat blank

-- Each known pair stands in the words, and none has the value 0.
abbrev pub Stands : List ℕ → List (ℕ × ℕ) → Type 0
Stands words [] = Unit {0}
Stands words (p ∷ known) = (p.1 ≢ 0) × (slice_index words p.0 ≡ p.1) × Stands words known

-- in how many of some places a value stands
abbrev pub count_standing : List ℕ → List ℕ → ℕ → ℕ
count_standing words places value = count_by (λ word. slice_index words word == value) places

-- The rule: what seats know stands, prepare words are allowed, and commit words have the value of a quorum of prepare words.
pub record IsKept (t : Terms) (b : Board) : Type 0 where
  pub sized : length b.words ≡ word_count t
  pub unused : slice_index b.words 0 ≡ 0
  pub small : (word : ℕ) → slice_index b.words word < 2 ^ 32
  pub known : All (λ v. Stands b.words v.known) b.views
  pub allowed : (at : ℕ) → at < votes t → slice_index b.words (1 + at) ≢ 0 → May t at (slice_index b.words (1 + at))
  pub backed : (slot member : ℕ) → IsPlace t slot member → slice_index b.words (commit_word t slot member) ≢ 0
      → quorum t ≤ count_standing b.words (prepare_words t slot) (slice_index b.words (commit_word t slot member))

-- What a seat does in one step.
pub data Kind : Type 0 where
  -- it loads the prepare word of a member
  LoadsPrepare : (slot member : ℕ) → Kind
  -- it loads the commit word of a member
  LoadsCommit : (slot member : ℕ) → Kind
  -- it exchanges 0 for a value in the prepare word of a member
  Prepares : (slot member value : ℕ) → Kind
  -- it exchanges 0 for a value in the commit word of a member
  Commits : (slot member value : ℕ) → Kind
  -- it makes a seat that knows what it knows
  Splits : Kind
  -- it takes in what another seat knows, which is then spent
  Joins : (other : ℕ) → Kind

-- When a seat may step so: it commits only what it knows to be prepared.
abbrev pub MayStep : Terms → Board → ℕ → Kind → Type 0
MayStep t b seat (LoadsPrepare slot member) = IsPlace t slot member
MayStep t b seat (LoadsCommit slot member) = IsPlace t slot member
MayStep t b seat (Prepares slot member value) = IsPlace t slot member × (value ≢ 0) × (value < 2 ^ 32) × May t (place t slot member) value
MayStep t b seat (Commits slot member value) = IsPlace t slot member × IsPrepared t (view_at b seat) slot value
MayStep t b seat Splits = Unit {0}
MayStep t b seat (Joins other) = (other < length b.views) × (other ≢ seat)

-- after a load
abbrev pub load : Board → ℕ → ℕ → Board
load b seat word = record { words = b.words; views = slice_set b.views seat (loaded (view_at b seat) word (slice_index b.words word)) }

-- after an exchange from 0 to a value
abbrev pub exchange : Board → ℕ → ℕ → ℕ → Board
exchange b seat word value = record {
  words = slice_set b.words word (stood value (slice_index b.words word));
  views = slice_set b.views seat (exchanged (view_at b seat) word value (slice_index b.words word));
}

-- after a split
abbrev pub split : Board → ℕ → Board
split b seat = record { words = b.words; views = b.views ++ view_at b seat ∷ [] }

-- after a join
abbrev pub join : Board → ℕ → ℕ → Board
join b seat other = record { words = b.words; views = slice_set (slice_set b.views seat (joined (view_at b seat) (view_at b other))) other blank }

-- what a step makes of the board
abbrev pub happens : Terms → Board → ℕ → Kind → Board
happens t b seat (LoadsPrepare slot member) = load b seat (prepare_word t slot member)
happens t b seat (LoadsCommit slot member) = load b seat (commit_word t slot member)
happens t b seat (Prepares slot member value) = exchange b seat (prepare_word t slot member) value
happens t b seat (Commits slot member value) = exchange b seat (commit_word t slot member) value
happens t b seat Splits = split b seat
happens t b seat (Joins other) = join b seat other

-- A step of a seat.
pub record Event : Type 0 where
  pub seat : ℕ
  pub kind : Kind

-- the board after a schedule, whose newest step stands first
abbrev pub board : Terms → List Event → Board
board t [] = opening t
board t (e ∷ older) = happens t (board t older) e.seat e.kind

-- Each step of a schedule may happen where it stands.
abbrev pub IsSchedule : Terms → List Event → Type 0
IsSchedule t [] = Unit {0}
IsSchedule t (e ∷ older) = (e.seat < length (board t older).views) × MayStep t (board t older) e.seat e.kind × IsSchedule t older

-- Each kind of step keeps the rule.
use Rattle.std.proofs.Common.{◌≡◌, ◌≢◌, ℕ, zero, suc, ◌+◌, ◌-◌, ◌*◌, ◌^◌, ◌<◌, ◌≤◌, ◌==◌, List, [], ◌∷◌, length, set, replicate, All, refl, sym, ◌∙◌, subst, arith}
use Rattle.std.specs.Prelude.{slice_index}
use Rattle.std.proofs.lemmas.Bool.{eqb-true}
use Rattle.std.proofs.lemmas.List.{length-replicate, length-set, get_or-set_same, get_or-set_other}
use Rattle.std.proofs.lemmas.List.Elements.{All-cons, All-nil, All-set, All-push, All-weaker, All-get_or}
use Rattle.std.proofs.lemmas.Nat.{mul-add-lt, same_from_place}
use Rattle.vote_words_model.specs.declared.Terms.{Terms}
use Rattle.vote_words_model.specs.declared.View.{View}
use Rattle.vote_words_model.specs.Places.{size, quorum, votes, word_count, place, prepare_word, commit_word, prepare_words, IsPlace, May}
use Rattle.vote_words_model.specs.Views.{blank, IsPrepared, loaded, stood, exchanged, joined}
use Rattle.vote_words_model.specs.Steps.{Board, IsKept, Stands, count_standing, view_at, load, exchange, split, join, LoadsPrepare, LoadsCommit, Prepares, Commits, Splits, Joins}
use Rattle.vote_words_model.specs.Laws.{OpeningIsKept, StepsKeep, WordsStay}
use Rattle.vote_words_model.proofs.Counting.{two_quorums}
use Rattle.vote_words_model.proofs.Standing.{stood_cases, written_cases, Stays, Stays-exchange, Stands-stays, Stands-append, Stands-learnt, standing_stays}
use Rattle.vote_words_model.proofs.Knowing.{IsSound-standing, known_stands}
use Rattle.vote_words_model.proofs.Deciding.{prepared_full}

-- a member's place is one of all
pub place_below : (t : Terms) (slot member : ℕ) → IsPlace t slot member → place t slot member < votes t
place_below t slot member at = mul-add-lt (slot - 1) (size t) member t.slots (omega arith) at.1

-- a member's words are among the words
pub prepare_word_below : (t : Terms) (slot member : ℕ) → IsPlace t slot member → prepare_word t slot member < word_count t
prepare_word_below t slot member at = let low = place_below t slot member at in omega arith

pub commit_word_below : (t : Terms) (slot member : ℕ) → IsPlace t slot member → commit_word t slot member < word_count t
commit_word_below t slot member at = let low = place_below t slot member at in omega arith

same_rest : (a b c : ℕ) → 1 + a + b ≡ 1 + a + c → b ≡ c
same_rest a b c e = omega arith

-- one commit word is of one slot
one_slot : (t : Terms) (s i r j : ℕ) → IsPlace t s i → IsPlace t r j → commit_word t s i ≡ commit_word t r j → s ≡ r
one_slot t s i r j a b e =
    let places = same_rest (votes t) ((s - 1) * size t + i) ((r - 1) * size t + j) e in
    let rows : s - 1 ≡ r - 1 = (same_from_place (s - 1) i (r - 1) j (size t) a.1 b.1 places).0 in
    omega arith

none_in : (n i : ℕ) → slice_index (replicate n 0) i ≡ 0
none_in zero i = refl
none_in (suc n) zero = refl
none_in (suc n) (suc i) = none_in n i

pub opening_is_kept : OpeningIsKept
opening_is_kept t = record {
  sized = length-replicate (word_count t) 0;
  unused = none_in (word_count t) 0;
  small = λ word. omega (arith, none_in (word_count t) word);
  known = All-cons (λ (v : View). Stands (replicate (word_count t) 0) v.known) blank [] tt (All-nil (λ (v : View). Stands (replicate (word_count t) 0) v.known));
  allowed = λ at low full. absurd (full (none_in (word_count t) (1 + at)));
  backed = λ slot member at full. absurd (full (none_in (word_count t) (commit_word t slot member)));
}

-- what a seat knows stands
pub seat_stands : (t : Terms) (b : Board) (seat : ℕ) → IsKept t b → seat < length b.views → Stands b.words (view_at b seat).known
seat_stands t b seat kept there = All-get_or (λ (v : View). Stands b.words v.known) b.views seat blank there kept.known

-- the rule, with the view of a seat changed
viewed : (t : Terms) (b : Board) (seat : ℕ) (v : View) → IsKept t b → Stands b.words v.known → IsKept t record { words = b.words; views = set b.views seat v }
viewed t b seat v kept stands = record {
  sized = kept.sized;
  unused = kept.unused;
  small = kept.small;
  known = All-set (λ (w : View). Stands b.words w.known) b.views seat v stands kept.known;
  allowed = kept.allowed;
  backed = kept.backed;
}

pub load_keeps : (t : Terms) (b : Board) (seat word : ℕ) → IsKept t b → seat < length b.views → IsKept t (load b seat word)
load_keeps t b seat word kept there = viewed t b seat (loaded (view_at b seat) word (slice_index b.words word)) kept (Stands-learnt b.words (view_at b seat).known word (seat_stands t b seat kept there))

pub split_keeps : (t : Terms) (b : Board) (seat : ℕ) → IsKept t b → seat < length b.views → IsKept t (split b seat)
split_keeps t b seat kept there = record {
  sized = kept.sized;
  unused = kept.unused;
  small = kept.small;
  known = All-push (λ (w : View). Stands b.words w.known) b.views (view_at b seat) kept.known (seat_stands t b seat kept there);
  allowed = kept.allowed;
  backed = kept.backed;
}

pub join_keeps : (t : Terms) (b : Board) (seat other : ℕ) → IsKept t b → seat < length b.views → other < length b.views → IsKept t (join b seat other)
join_keeps t b seat other kept there other_there =
    let both = Stands-append b.words (view_at b seat).known (view_at b other).known (seat_stands t b seat kept there) (seat_stands t b other kept other_there) in
    viewed t record { words = b.words; views = set b.views seat (joined (view_at b seat) (view_at b other)) } other blank (viewed t b seat (joined (view_at b seat) (view_at b other)) kept both) tt

-- what an exchange leaves in its word is known to the seat, and stands
pub exchanged_stands : (t : Terms) (b : Board) (seat word value : ℕ) → IsKept t b → seat < length b.views → word < word_count t → value ≢ 0
    → Stands (exchange b seat word value).words (exchanged (view_at b seat) word value (slice_index b.words word)).known
exchanged_stands t b seat word value kept there low full =
    let within : word < length b.words = omega (arith, kept.sized) in
    let n = slice_index b.words word in
    let now = set b.words word (stood value n) in
    Stands-append now (view_at b seat).known ((word, stood value n) ∷ []) (Stands-stays b.words now (Stays-exchange b.words word value within) (view_at b seat).known (seat_stands t b seat kept there))
    (stood_cases value n (λ y. y ≢ 0) (λ _. full) (λ some. some), get_or-set_same b.words word (stood value n) 0 within, tt)

-- the parts of the rule that each exchange keeps
exchange_known : (t : Terms) (b : Board) (seat word value : ℕ) → IsKept t b → seat < length b.views → word < word_count t → value ≢ 0
    → All (λ v. Stands (exchange b seat word value).words v.known) (exchange b seat word value).views
exchange_known t b seat word value kept there low full =
    let within : word < length b.words = omega (arith, kept.sized) in
    let now = (exchange b seat word value).words in
    All-set (λ (v : View). Stands now v.known) b.views seat (exchanged (view_at b seat) word value (slice_index b.words word)) (exchanged_stands t b seat word value kept there low full)
    (All-weaker (λ (v : View). Stands b.words v.known) (λ (v : View). Stands now v.known) (λ v h. Stands-stays b.words now (Stays-exchange b.words word value within) v.known h) b.views kept.known)

exchange_small : (t : Terms) (b : Board) (word value : ℕ) → IsKept t b → word < word_count t → value < 2 ^ 32 → (i : ℕ) → slice_index (set b.words word (stood value (slice_index b.words word))) i < 2 ^ 32
exchange_small t b word value kept low fits i =
    written_cases b.words word (stood value (slice_index b.words word)) i (λ y. y < 2 ^ 32) (omega (arith, kept.sized))
    (λ _. stood_cases value (slice_index b.words word) (λ y. y < 2 ^ 32) (λ _. fits) (λ _. kept.small word))
    (λ _. kept.small i)

exchange_unused : (t : Terms) (b : Board) (word y : ℕ) → IsKept t b → word ≢ 0 → slice_index (set b.words word y) 0 ≡ 0
exchange_unused t b word y kept apart = get_or-set_other b.words word 0 y 0 (λ e. apart (sym e)) ∙ kept.unused

-- a quorum of words that have a value stays one
still_backed : (t : Terms) (words later : List ℕ) → Stays words later → (slot value : ℕ) → value ≢ 0 → quorum t ≤ count_standing words (prepare_words t slot) value → quorum t ≤ count_standing later (prepare_words t slot) value
still_backed t words later stays slot value full before = let more = standing_stays words later stays value full (prepare_words t slot) in omega arith

pub prepare_keeps : (t : Terms) (b : Board) (seat slot member value : ℕ) → IsKept t b → seat < length b.views → IsPlace t slot member → value ≢ 0 → value < 2 ^ 32 → May t (place t slot member) value
    → IsKept t (exchange b seat (prepare_word t slot member) value)
prepare_keeps t b seat slot member value kept there at full fits may =
    let word = prepare_word t slot member in
    let n = slice_index b.words word in
    let y = stood value n in
    let here = place_below t slot member at in
    let low : word < word_count t = prepare_word_below t slot member at in
    let within : word < length b.words = omega (arith, kept.sized) in
    let stays = Stays-exchange b.words word value within in
    record {
      sized = length-set b.words word y ∙ kept.sized;
      unused = exchange_unused t b word y kept (λ e. omega arith);
      small = exchange_small t b word value kept low fits;
      known = exchange_known t b seat word value kept there low full;
      allowed = λ k below.
          written_cases b.words word y (1 + k) (λ z. z ≢ 0 → May t k z) within
          (λ same.
          let is : k ≡ place t slot member = omega arith in
          stood_cases value n (λ z. z ≢ 0 → May t k z) (λ _ _. subst (λ p. May t p value) (sym is) may)
          (λ _. subst (λ w. slice_index b.words w ≢ 0 → May t k (slice_index b.words w)) same (kept.allowed k below)))
          (λ _. kept.allowed k below);
      backed = λ s i place_i.
          written_cases b.words word y (commit_word t s i) (λ z. z ≢ 0 → quorum t ≤ count_standing (set b.words word y) (prepare_words t s) z) within
          (λ same. absurd (omega arith))
          (λ _ full_now. still_backed t b.words (set b.words word y) stays s (slice_index b.words (commit_word t s i)) full_now (kept.backed s i place_i full_now));
    }

-- what stands in a quorum of words is a number of 32 bits
backed_small : (t : Terms) (b : Board) (slot value : ℕ) → IsKept t b → quorum t ≤ count_standing b.words (prepare_words t slot) value → value < 2 ^ 32
backed_small t b slot value kept backs =
    let r = two_quorums t.f (prepare_word t slot 0) (λ i. slice_index b.words i == value) (λ i. slice_index b.words i == value) backs backs in
    subst (λ x. x < 2 ^ 32) (eqb-true (slice_index b.words r.0) value r.1) (kept.small r.0)

pub commit_keeps : (t : Terms) (b : Board) (seat slot member value : ℕ) → IsKept t b → seat < length b.views → IsPlace t slot member → IsPrepared t (view_at b seat) slot value
    → IsKept t (exchange b seat (commit_word t slot member) value)
commit_keeps t b seat slot member value kept there at prepared =
    let word = commit_word t slot member in
    let n = slice_index b.words word in
    let y = stood value n in
    let low : word < word_count t = commit_word_below t slot member at in
    let within : word < length b.words = omega (arith, kept.sized) in
    let stays = Stays-exchange b.words word value within in
    let stands = seat_stands t b seat kept there in
    let full : value ≢ 0 = prepared_full t (view_at b seat) (IsSound-standing b.words (view_at b seat) stands) slot value prepared in
    let backs : quorum t ≤ count_standing b.words (prepare_words t slot) value = (let more = known_stands b.words (view_at b seat) stands value (prepare_words t slot) in omega arith) in
    let later = still_backed t b.words (set b.words word y) stays in
    record {
      sized = length-set b.words word y ∙ kept.sized;
      unused = exchange_unused t b word y kept (λ e. omega arith);
      small = exchange_small t b word value kept low (backed_small t b slot value kept backs);
      known = exchange_known t b seat word value kept there low full;
      allowed = λ k below.
          written_cases b.words word y (1 + k) (λ z. z ≢ 0 → May t k z) within
          (λ same. absurd (omega arith))
          (λ _. kept.allowed k below);
      backed = λ s i place_i.
          written_cases b.words word y (commit_word t s i) (λ z. z ≢ 0 → quorum t ≤ count_standing (set b.words word y) (prepare_words t s) z) within
          (λ same.
          let is : slot ≡ s = one_slot t slot member s i at place_i (sym same) in
          stood_cases value n (λ z. z ≢ 0 → quorum t ≤ count_standing (set b.words word y) (prepare_words t s) z)
          (λ _ some. later s value some (subst (λ r. quorum t ≤ count_standing b.words (prepare_words t r) value) is backs))
          (λ _ some. later s n some (subst (λ r. quorum t ≤ count_standing b.words (prepare_words t r) n) is (kept.backed slot member at some))))
          (λ _ some. later s (slice_index b.words (commit_word t s i)) some (kept.backed s i place_i some));
    }

pub steps_keep : StepsKeep
steps_keep t b seat (LoadsPrepare slot member) kept there may = load_keeps t b seat (prepare_word t slot member) kept there
steps_keep t b seat (LoadsCommit slot member) kept there may = load_keeps t b seat (commit_word t slot member) kept there
steps_keep t b seat (Prepares slot member value) kept there may = prepare_keeps t b seat slot member value kept there may.0 may.1 may.2 may.3
steps_keep t b seat (Commits slot member value) kept there may = commit_keeps t b seat slot member value kept there may.0 may.1
steps_keep t b seat Splits kept there may = split_keeps t b seat kept there
steps_keep t b seat (Joins other) kept there may = join_keeps t b seat other kept there may.0

pub words_stay : WordsStay
words_stay t b seat (LoadsPrepare slot member) kept there may word full = refl
words_stay t b seat (LoadsCommit slot member) kept there may word full = refl
words_stay t b seat (Prepares slot member value) kept there may word full = Stays-exchange b.words (prepare_word t slot member) value (let low = prepare_word_below t slot member may.0 in omega (arith, kept.sized)) word full
words_stay t b seat (Commits slot member value) kept there may word full = Stays-exchange b.words (commit_word t slot member) value (let low = commit_word_below t slot member may.0 in omega (arith, kept.sized)) word full
words_stay t b seat Splits kept there may word full = refl
words_stay t b seat (Joins other) kept there may word full = refl

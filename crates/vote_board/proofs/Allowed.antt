-- Each step on the words of a board is one of the model's, and so keeps the rule.
use Rattle.std.proofs.Common.{◌≡◌, ◌≢◌, ℕ, zero, suc, ◌^◌, ◌<◌, Bool, true, false, cond, eqb, List, [], ◌∷◌, ◌++◌, length, get_or, set, refl, sym, ◌∙◌, subst, arith}
use Rattle.std.specs.Prelude.{slice_index}
use Rattle.std.proofs.lemmas.List.{set-get_or}
use mathlib.Core.Option.{some, none, some-injective, some-ne-none}
use lib.ListN.{get_elem?}
use prog.Atomic.{either}
use Rattle.atomic_table.proofs.Lists.{set_else, set_again}
use Rattle.atomic_table.specs.Table.{State, Me, Allows, Splits, Joins, step, keeps}
use Rattle.vote_words_model.specs.declared.Terms.{Terms}
use Rattle.vote_words_model.specs.declared.View.{View}
use Rattle.vote_words_model.specs.Places.{place, prepare_word, commit_word, prepare_words, IsPlace, May}
use Rattle.vote_words_model.specs.Views.{blank, IsPrepared, loaded, stood, exchanged, joined}
use Rattle.vote_words_model.specs.Steps.{IsKept, Stands}
use Rattle.vote_words_model.proofs.Standing.{Stands-learnt, standing}
use Rattle.vote_words_model.proofs.Knowing.{IsSound-standing, known_stands}
use Rattle.vote_words_model.proofs.Deciding.{prepared_full, stands_one}
use Rattle.vote_words_model.proofs.Keeping.{seat_stands, load_keeps, split_keeps, join_keeps, prepare_keeps, commit_keeps, exchanged_stands, prepare_word_below, commit_word_below}
use Rattle.vote_board.specs.Telling.{board_of, Holds, TellsLoad, TellsExchange, TellsCommit, TellsNothing}

-- what is found at a place stands there
at_place : {A : Type 0} (xs : List A) (i : ℕ) (a d : A) → get_elem? xs i ≡ some a → (i < length xs) × (get_or xs i d ≡ a)
at_place [] i a d e = absurd (some-ne-none a (sym e))
at_place (x ∷ xs) zero a d e = (omega arith, some-injective x a e)
at_place (x ∷ xs) (suc i) a d e = let r = at_place xs i a d e in (omega arith, r.1)

either_is : (b : Bool) (x y : ℕ) → cond b x y ≡ either b x y
either_is true x y = refl
either_is false x y = refl

-- what the seat of a table knows stands in its words
me_stands : {S : Type 0} (t : Terms) (s : State S View) (id : ℕ) (v : View) → Holds t s → get_elem? s.views id ≡ some v → Stands s.words v.known
me_stands t s id v kept at =
    let there = at_place s.views id v blank at in
    subst (λ (w : View). Stands s.words w.known) there.1 (seat_stands t (board_of s) id kept there.0)

pub load_allowed : {S : Type 0} (t : Terms) (slots id word : ℕ) (me : Me S View) → Allows (Holds {S = S} t) slots id me word (λ n. n) (TellsLoad (step slots word 0 0 none) me)
load_allowed t slots id word me s kept homes at small =
    let there = at_place s.views id me.0 blank at in
    let n = slice_index s.words word in
    let w = loaded me.0 word n in
    let stands = Stands-learnt s.words me.0.known word (me_stands t s id me.0 kept at) in
    let views = subst (λ (v : View). IsKept t record { words = s.words; views = set s.views id (loaded v word n) }) there.1 (load_keeps t (board_of s) id word kept there.0) in (
      w,
      keeps,
      tt,
      subst (λ (words : List ℕ). IsKept t record { words = words; views = set s.views id w }) (sym (set-get_or s.words word 0)) views,
      record {
        view = refl;
        slots = refl;
        small = kept.small word;
        sound = IsSound-standing s.words w stands;
        shown = λ x e. sym (standing s.words w.known stands word x e).1;
      },
    )

pub compare_allowed : {S : Type 0} (t : Terms) (slots id word : ℕ) (me : Me S View) → Allows (Holds {S = S} t) slots id me word (λ n. n) (TellsNothing (step slots word 0 0 none) me)
compare_allowed t slots id word me s kept homes at small =
    let words = subst (λ (words : List ℕ). IsKept t record { words = words; views = s.views }) (sym (set-get_or s.words word 0)) kept in (
      me.0,
      keeps,
      tt,
      subst (λ (views : List View). IsKept t record { words = set s.words word (slice_index s.words word); views = views }) (sym (set_again s.views id me.0 at)) words,
      record { view = refl; slots = refl; sound = IsSound-standing s.words me.0 (me_stands t s id me.0 kept at) },
    )

pub prepare_allowed : {S : Type 0} (t : Terms) (slots id slot member value : ℕ) (me : Me S View) → IsPlace t slot member → value ≢ 0 → value < 2 ^ 32 → May t (place t slot member) value
    → Allows (Holds {S = S} t) slots id me (prepare_word t slot member) (λ n. either (eqb n 0) value n) (TellsExchange (step slots (prepare_word t slot member) 0 value none) me)
prepare_allowed t slots id slot member value me place_is full fits may s kept homes at small =
    let there = at_place s.views id me.0 blank at in
    let word = prepare_word t slot member in
    let n = slice_index s.words word in
    let w = exchanged me.0 word value n in
    let now = set s.words word (stood value n) in
    let stands = subst (λ (v : View). Stands now (exchanged v word value n).known) there.1 (exchanged_stands t (board_of s) id word value kept there.0 (prepare_word_below t slot member place_is) full) in
    let views = subst (λ (v : View). IsKept t record { words = now; views = set s.views id (exchanged v word value n) }) there.1 (prepare_keeps t (board_of s) id slot member value kept there.0 place_is full fits may) in (
      w,
      keeps,
      tt,
      subst (λ (y : ℕ). IsKept t record { words = set s.words word y; views = set s.views id w }) (either_is (eqb n 0) value n) views,
      record { view = refl; slots = refl; small = kept.small word; sound = IsSound-standing now w stands },
    )

pub commit_allowed : {S : Type 0} (t : Terms) (slots id slot member value : ℕ) (me : Me S View) → IsPlace t slot member → IsPrepared t me.0 slot value
    → Allows (Holds {S = S} t) slots id me (commit_word t slot member) (λ n. either (eqb n 0) value n) (TellsCommit (step slots (commit_word t slot member) 0 value none) me)
commit_allowed t slots id slot member value me place_is prepared s kept homes at small =
    let there = at_place s.views id me.0 blank at in
    let word = commit_word t slot member in
    let n = slice_index s.words word in
    let w = exchanged me.0 word value n in
    let now = set s.words word (stood value n) in
    let mine = me_stands t s id me.0 kept at in
    let full = prepared_full t me.0 (IsSound-standing s.words me.0 mine) slot value prepared in
    let stands = subst (λ (v : View). Stands now (exchanged v word value n).known) there.1 (exchanged_stands t (board_of s) id word value kept there.0 (commit_word_below t slot member place_is) full) in
    let views = subst (λ (v : View). IsKept t record { words = now; views = set s.views id (exchanged v word value n) }) there.1
    (commit_keeps t (board_of s) id slot member value kept there.0 place_is (subst (λ (v : View). IsPrepared t v slot value) (sym there.1) prepared)) in (
      w,
      keeps,
      tt,
      subst (λ (y : ℕ). IsKept t record { words = set s.words word y; views = set s.views id w }) (either_is (eqb n 0) value n) views,
      record {
        view = refl;
        slots = refl;
        same = λ full_now. (let often = known_stands s.words me.0 mine value (prepare_words t slot) in stands_one t.f (prepare_word t slot 0) s.words n value (kept.backed slot member place_is full_now) (omega arith));
        sound = IsSound-standing now w stands;
      },
    )

pub split_allowed : {S : Type 0} (t : Terms) (id : ℕ) (v : View) → Splits (Holds {S = S} t) id v v v
split_allowed t id v s kept at =
    let there = at_place s.views id v blank at in
    let longer = subst (λ (w : View). IsKept t record { words = s.words; views = s.views ++ w ∷ [] }) there.1 (split_keeps t (board_of s) id kept there.0) in
    subst (λ (views : List View). IsKept t record { words = s.words; views = views ++ v ∷ [] }) (sym (set_again s.views id v at)) longer

pub join_allowed : {S : Type 0} (t : Terms) (id other : ℕ) (v w : View) → Joins (Holds {S = S} t) id v other w (joined v w) blank
join_allowed t id other v w s kept at apart there =
    let a = at_place s.views id v blank at in
    let b = at_place s.views other w blank (sym (set_else s.views id other (joined v w) apart) ∙ there) in
    let mine = subst (λ (u : View). IsKept t record { words = s.words; views = set (set s.views id (joined u (get_or s.views other blank))) other blank }) a.1 (join_keeps t (board_of s) id other kept a.0 b.0) in
    subst (λ (u : View). IsKept t record { words = s.words; views = set (set s.views id (joined v u)) other blank }) b.1 mine

-- The same, for a table whose key is the board's terms, at a word that was reckoned.
pub prepare_at : {S : Type 0} (t key : Terms) (slots id word slot member value : ℕ) (me : Me S View) → key ≡ t → word ≡ prepare_word t slot member
    → IsPlace t slot member → value ≢ 0 → value < 2 ^ 32 → May t (place t slot member) value
    → Allows (Holds {S = S} key) slots id me word (λ n. either (eqb n 0) value n) (TellsExchange (step slots word 0 value none) me)
prepare_at {S} t key slots id word slot member value me same is place_is full fits may =
    subst (λ (u : Terms). Allows (Holds {S = S} u) slots id me word (λ n. either (eqb n 0) value n) (TellsExchange (step slots word 0 value none) me)) (sym same)
    (subst (λ (w : ℕ). Allows (Holds {S = S} t) slots id me w (λ n. either (eqb n 0) value n) (TellsExchange (step slots w 0 value none) me)) (sym is) (prepare_allowed t slots id slot member value me place_is full fits may))

pub commit_at : {S : Type 0} (t key : Terms) (slots id word slot member value : ℕ) (me : Me S View) → key ≡ t → word ≡ commit_word t slot member
    → IsPlace t slot member → IsPrepared t me.0 slot value
    → Allows (Holds {S = S} key) slots id me word (λ n. either (eqb n 0) value n) (TellsCommit (step slots word 0 value none) me)
commit_at {S} t key slots id word slot member value me same is place_is prepared =
    subst (λ (u : Terms). Allows (Holds {S = S} u) slots id me word (λ n. either (eqb n 0) value n) (TellsCommit (step slots word 0 value none) me)) (sym same)
    (subst (λ (w : ℕ). Allows (Holds {S = S} t) slots id me w (λ n. either (eqb n 0) value n) (TellsCommit (step slots w 0 value none) me)) (sym is) (commit_allowed t slots id slot member value me place_is prepared))

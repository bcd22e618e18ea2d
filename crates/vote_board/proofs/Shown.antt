-- What loads show, and how often a value was found.
use Rattle.std.proofs.Common.{◌≡◌, ◌≢◌, ℕ, zero, suc, ◌+◌, ◌<◌, ◌≤◌, ⊎_elim, Bool, true, false, cond, ◌==◌, List, [], ◌∷◌, ◌++◌, length, set, count_by, ◌↔◌, Option, Some, None, IfSome, IfNone, IsNone, refl, sym, ap, ◌∙◌, subst, append_assoc, arith}
use Rattle.std.specs.Prelude.{slice_index}
use Rattle.std.specs.List.{range_with_len}
use Rattle.std.proofs.lemmas.Bool.{eqb-true, eqb-false, cases_eq, cases_lt, false_from_ne_true, true≢false}
use Rattle.std.proofs.lemmas.List.{get_or-set_same, get_or-set_other}
use Rattle.std.proofs.lemmas.List.Sums.{sum_by-cons}
use Rattle.vote_words_model.specs.declared.Terms.{Terms}
use Rattle.vote_words_model.specs.declared.View.{View}
use Rattle.vote_words_model.specs.Places.{size, quorum, commit_word}
use Rattle.vote_words_model.specs.Views.{knows, IsSound, count_known, loaded}
use Rattle.vote_words_model.proofs.Counting.{count_by-le-count_by}
use Rattle.vote_words_model.proofs.Knowing.{has_pair-learnt, has_pair-learnt_other}
use Rattle.vote_board.specs.Changes.{LoadsWords, ShowsTo, NoneDecided}

range_with_len-suc : (a n : ℕ) → range_with_len a (suc n) ≡ range_with_len a n ++ (a + n) ∷ []
range_with_len-suc a zero = let e : a ≡ a + 0 = omega arith in ap (λ k. k ∷ []) e
range_with_len-suc a (suc n) =
    let e : a + 1 + n ≡ a + suc n = omega arith in
    ap (λ ks. a ∷ ks) (range_with_len-suc (a + 1) n ∙ ap (λ k. range_with_len (a + 1) n ++ k ∷ []) e)

-- a range and the number behind it
pub range_with_len_more : (a n : ℕ) → range_with_len a (n + 1) ≡ range_with_len a n ++ (a + n) ∷ []
range_with_len_more a n = let e : n + 1 ≡ suc n = omega arith in ap (range_with_len a) e ∙ range_with_len-suc a n

-- a load of a word that was not looked at before
pub shown_more : (v : View) (from : ℕ) (found : List ℕ) (i n : ℕ) → i < length found → ShowsTo v from found i
    → ((x : ℕ) → knows (loaded v (from + i) n) (from + i) x ≡ true → x ≡ n) → ShowsTo (loaded v (from + i) n) from (set found i n) (i + 1)
shown_more v from found i n within before tells k x low full =
    ⊎_elim
    (λ (same : k ≡ i).
    let is : slice_index (set found i n) k ≡ n = ap (slice_index (set found i n)) same ∙ get_or-set_same found i n 0 within in
    ap (λ j. knows (loaded v (from + i) n) (from + j) x) same ∙ here (n == x) refl ∙ ap (λ y. y == x) (sym is))
    (λ (apart : k ≢ i).
    has_pair-learnt_other v.known (from + i) n (from + k) x (λ e. apart (omega arith)) ∙ before k x (omega arith) full ∙ ap (λ y. y == x) (sym (get_or-set_other found i k n 0 apart)))
    (cases_eq k i)
  where
    here : (b : Bool) → (n == x) ≡ b → knows (loaded v (from + i) n) (from + i) x ≡ (n == x)
    here true e =
        let is : n ≡ x = eqb-true n x e in
        let known = has_pair-learnt v.known (from + i) n (λ none. full (sym is ∙ none)) in
        subst (λ y. knows (loaded v (from + i) n) (from + i) y ≡ true) is known ∙ sym e
    here false e = false_from_ne_true (knows (loaded v (from + i) n) (from + i) x) (λ k. eqb-false n x e (sym (tells x k))) ∙ sym e

-- a value is found as often as it is known
pub count_by-shown : (xs : List ℕ) (a : ℕ) (p : ℕ → Bool) (x : ℕ) → ((k : ℕ) → k < length xs → p (a + k) ≡ (slice_index xs k == x)) → count_by p (range_with_len a (length xs)) ≡ count_by (λ y. y == x) xs
count_by-shown [] a p x h = refl
count_by-shown (y ∷ ys) a p x h =
    let first : p a ≡ (y == x) = subst (λ j. p j ≡ (y == x)) (omega arith) (h 0 (omega arith)) in
    let rest = count_by-shown ys (a + 1) p x (λ k low. subst (λ j. p j ≡ (slice_index ys k == x)) (omega arith) (h (suc k) (omega arith))) in
    omega (arith, sum_by-cons (λ j. cond (p j) 1 0) a (range_with_len (a + 1) (length ys)), sum_by-cons (λ z. cond (z == x) 1 0) y ys, rest, ap {B = ℕ} (λ b. cond b 1 0) first)

-- what is counted stands somewhere
pub counted_at : (t : ℕ → Bool) (xs : List ℕ) → 0 < count_by t xs → (k : ℕ) × (k < length xs) × (t (slice_index xs k) ≡ true)
counted_at t [] h = absurd (omega arith)
counted_at t (x ∷ xs) h =
    elim (t x) as (λ b. t x ≡ b → (k : ℕ) × (k < length (x ∷ xs)) × (t (slice_index (x ∷ xs) k) ≡ true)) [
      | true ↦ λ e. (0, omega arith, e)
      | false ↦ λ e.
          let more : 0 < count_by t xs = omega (arith, sum_by-cons (λ y. cond (t y) 1 0) x xs, ap {B = ℕ} (λ b. cond b 1 0) e) in
          let r = counted_at t xs more in
          (suc r.0, omega arith, r.2)
    ] refl

none_counted : (xs : List ℕ) → count_by (λ _. false) xs ≡ 0
none_counted [] = refl
none_counted (x ∷ xs) = omega (arith, sum_by-cons (λ _. 0) x xs, none_counted xs)

-- no word is known with 0
pub zero_unknown : (v : View) → IsSound v → (words : List ℕ) → count_known v words 0 ≡ 0
zero_unknown v sound words =
    let few = count_by-le-count_by (λ i. knows v i 0) (λ _. false) (λ i e. absurd ((sound i 0 0 e e).0 refl)) words in
    omega (arith, few, none_counted words)

-- a value that is found often is one of those that are found
pub none_frequent : (found : List ℕ) (need : ℕ) → 0 < need
    → ((k : ℕ) → k < length found → slice_index found k ≢ 0 → count_by (λ y. y == slice_index found k) found < need)
    → (x : ℕ) → x ≢ 0 → count_by (λ y. y == x) found < need
none_frequent found need some none x full = ⊎_elim (λ few. few) (λ often. absurd (at often)) (cases_lt (count_by (λ y. y == x) found) need)
  where
    at : need ≤ count_by (λ y. y == x) found → ⊥
    at often =
        let r = counted_at (λ y. y == x) found (omega arith) in
        let is : slice_index found r.0 ≡ x = eqb-true (slice_index found r.0) x r.2 in
        let few = subst (λ (z : ℕ). z ≢ 0 → count_by (λ y. y == z) found < need) is (none r.0 r.1) full in
        omega arith

-- a load of the word that comes next
pub shown_step : (v w : View) (from : ℕ) (found : List ℕ) (i n : ℕ) → w ≡ loaded v (from + i) n → i < length found → ShowsTo v from found i
    → ((x : ℕ) → knows w (from + i) x ≡ true → x ≡ n) → ShowsTo w from (set found i n) (i + 1)
shown_step v w from found i n e within before =
    subst (λ (u : View). ((x : ℕ) → knows u (from + i) x ≡ true → x ≡ n) → ShowsTo u from (set found i n) (i + 1)) (sym e) (shown_more v from found i n within before)

pub loads_step : (u v w : View) (from i n : ℕ) → LoadsWords u v (range_with_len from i) → w ≡ loaded v (from + i) n → LoadsWords u w (range_with_len from (i + 1))
loads_step u v w from i n before e =
    ap (λ (z : View). z.loads) e
    ∙ ap (λ (loads : List ℕ). loads ++ (from + i) ∷ []) before
    ∙ append_assoc u.loads (range_with_len from i) ((from + i) ∷ [])
    ∙ ap (λ (more : List ℕ). u.loads ++ more) (sym (range_with_len_more from i))

-- a value that was found so often is known so often
pub look_some : (v : View) (from n need x : ℕ) (found : List ℕ) → length found ≡ n → ShowsTo v from found (length found) → x ≢ 0 → need ≤ count_by (λ y. y == x) found
    → need ≤ count_known v (range_with_len from n) x
look_some v from n need x found len shows full often =
    let known = ap (λ (m : ℕ). count_known v (range_with_len from m) x) (sym len) ∙ count_by-shown found from (λ i. knows v i x) x (λ k low. shows k x low full) in
    omega arith

-- where no value was found so often, none is known so often
pub look_none : (v : View) (from n need : ℕ) (found : List ℕ) → length found ≡ n → ShowsTo v from found (length found) → IsSound v → 0 < need
    → ((x : ℕ) → x ≢ 0 → count_by (λ y. y == x) found < need) → (x : ℕ) → ¬ (need ≤ count_known v (range_with_len from n) x)
look_none v from n need found len shows sound some few x often =
    ⊎_elim
    (λ (none : x ≡ 0). let zero_known = zero_unknown v sound (range_with_len from n) in let same = ap (count_known v (range_with_len from n)) none in omega arith)
    (λ (full : x ≢ 0).
    let known = ap (λ (m : ℕ). count_known v (range_with_len from m) x) (sym len) ∙ count_by-shown found from (λ i. knows v i x) x (λ k low. shows k x low full) in
    let less = few x full in
    omega arith)
    (cases_eq x 0)

-- a count in a row of words that was reckoned
pub in_row : (t : Terms) (v : View) (from row need x : ℕ) → from ≡ row → need ≡ quorum t
    → need ≤ count_known v (range_with_len from (size t)) x → quorum t ≤ count_known v (range_with_len row (size t)) x
in_row t v from row need x f n often = let same = ap (λ (i : ℕ). count_known v (range_with_len i (size t)) x) f in omega arith

pub from_row : (t : Terms) (v : View) (from row need x : ℕ) → from ≡ row → need ≡ quorum t
    → quorum t ≤ count_known v (range_with_len row (size t)) x → need ≤ count_known v (range_with_len from (size t)) x
from_row t v from row need x f n often = let same = ap (λ (i : ℕ). count_known v (range_with_len i (size t)) x) f in omega arith

-- none is told exactly where none is decided
pub none_decided : (told : Option ℕ) (t : Terms) (v : View) (slot from need : ℕ) → from ≡ commit_word t slot 0 → need ≡ quorum t
    → IfSome told (λ x. need ≤ count_known v (range_with_len from (size t)) x) → IfNone told ((x : ℕ) → ¬ (need ≤ count_known v (range_with_len from (size t)) x))
    → IsNone told ↔ NoneDecided t v slot
none_decided None t v slot from need f n some none = ((λ _ x decided. none x (from_row t v from (commit_word t slot 0) need x f n decided)), λ _. refl)
none_decided (Some x) t v slot from need f n some none = ((λ no. absurd (true≢false no)), λ undecided. absurd (undecided x (in_row t v from (commit_word t slot 0) need x f n some)))

-- what is told of a row that was loaded
pub told_some : (told : Option ℕ) (v : View) (from n need : ℕ) (found : List ℕ) → length found ≡ n → ShowsTo v from found (length found)
    → IfSome told (λ x. x ≢ 0) → IfSome told (λ x. need ≤ count_by (λ y. y == x) found) → IfSome told (λ x. need ≤ count_known v (range_with_len from n) x)
told_some None v from n need found len shows full often = tt
told_some (Some x) v from n need found len shows full often = look_some v from n need x found len shows full often

pub told_none : (told : Option ℕ) (v : View) (from n need : ℕ) (found : List ℕ) → length found ≡ n → ShowsTo v from found (length found) → IsSound v → 0 < need
    → IfNone told ((x : ℕ) → x ≢ 0 → count_by (λ y. y == x) found < need) → IfNone told ((x : ℕ) → ¬ (need ≤ count_known v (range_with_len from n) x))
told_none None v from n need found len shows sound some few = look_none v from n need found len shows sound some few
told_none (Some x) v from n need found len shows sound some few = tt

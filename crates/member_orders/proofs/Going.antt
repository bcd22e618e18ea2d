-- The requests of a client are ordered one after the other.
use Rattle.std.proofs.Common.{◌≡◌, ℕ, zero, suc, ◌+◌, ◌-◌, ◌<◌, ◌≤◌, min, Bool, true, false, cond, ◌==◌, ◌&&◌, nat_lt, List, [], ◌∷◌, ◌++◌, length, Option, Some, None, refl, sym, ap, ap₂, ◌∙◌, subst, arith, append-nil, append_assoc, ⊎_elim}
use Rattle.std.specs.Option.{option_or}
use Rattle.std.proofs.lemmas.Bool.{eq-eqb, ne_eqb, eqb-true, cases_lt}
use Rattle.std.proofs.lemmas.Bool.Decides.{nat_tests}
use Rattle.ring_model.specs.Messages.{Message, PrePrepare}
use Rattle.ring_model.specs.History.{go_on, run_of}
use Rattle.ring_model.proofs.Lists.{run_none}
use Rattle.member_orders.specs.Views.{View, IsAsked, is_turn, Takes, Lacks, Advances}
use Rattle.member_orders.specs.Told.{told_from, next_of}

-- runs that are the same from a place on
pub run_same : {Y : Type 0} (a b : ℕ → Option Y) (m : ℕ) → ((s : ℕ) → m ≤ s → a s ≡ b s) → (n s : ℕ) → m ≤ s → run_of a n s ≡ run_of b n s
run_same a b m f zero s h = refl
run_same a b m f (suc n) s h = ap (λ o. go_on o (run_of a n (s + 1))) (f s h) ∙ ap (go_on (b s)) (run_same a b m f n (s + 1) (omega arith))

run_more : {Y : Type 0} (c : ℕ → Option Y) (n k s t : ℕ) (y : Y) → n ≡ suc k → t ≡ s + 1 → c s ≡ Some y → run_of c n s ≡ y ∷ run_of c k t
run_more c n k s t y e u h = ap (λ i. run_of c i s) e ∙ ap (λ o. go_on o (run_of c k (s + 1))) h ∙ ap (λ j. y ∷ run_of c k j) (sym u)

-- beyond the greatest sequence number nothing is told
pub told_beyond : (k : ℕ) (rs : List (List ℕ)) → 65536 ≤ k → told_from k rs ≡ []
told_beyond k [] h = refl
told_beyond k (r ∷ rs) h =
    let no : nat_lt k 65536 ≡ false = grind (arith, nat_tests) in
    ap (λ b. cond b (PrePrepare (k + 1) r ∷ []) [] ++ told_from (k + 1) rs) no ∙ told_beyond (k + 1) rs (omega arith)

pub told_min : (k n : ℕ) (rs : List (List ℕ)) → n ≡ min k 65536 → told_from n rs ≡ told_from k rs
told_min k n rs e = ⊎_elim
    (λ low. ap (λ i. told_from i rs) (let same : n ≡ k = omega (arith, e, low) in same))
    (λ high. told_beyond n rs (omega (arith, e, high)) ∙ sym (told_beyond k rs high))
    (cases_lt k 65536)

-- What is told by now and what is left make the whole.
pub record Goes (v : View) (c : ℕ) (w : View) (before now : List Message) : Type 0 where
  pub told : now ++ told_from w.ordered (next_of w c) ≡ before ++ told_from v.ordered (next_of v c)
  pub counts : (d : ℕ) → w.count d + cond (c == d) (length (next_of w c)) 0 ≡ v.count d + cond (c == d) (length (next_of v c)) 0
  pub ordered_is : min (w.ordered + length (next_of w c)) 65536 ≡ min (v.ordered + length (next_of v c)) 65536
  pub firsts : (d k : ℕ) → w.count d < k → w.first d k ≡ v.first d k

pub goes_start : (v : View) (c : ℕ) (before : List Message) → Goes v c v before before
goes_start v c before = record { told = refl; counts = λ d. refl; ordered_is = refl; firsts = λ d k h. refl }

-- the next one, which is taken out and then told
module _ (v w x y : View) (c : ℕ) (r : List ℕ) (before now more : List Message) (goes : Goes v c w before now) (takes : Takes w c r x) (low : w.count c < 65536)
    (firsts : (d k : ℕ) → y.first d k ≡ x.first d k) (counts : (d : ℕ) → y.count d ≡ x.count d) (next : y.ordered ≡ min (w.ordered + 1) 65536) (told : more ≡ now ++ told_from w.ordered (r ∷ [])) where
  raised_own : y.count c ≡ w.count c + 1
  raised_own = counts c ∙ takes.counts c ∙ ap (λ b. cond b (w.count c + 1) (w.count c)) (eq-eqb c c refl)

  not_turn : (d k : ℕ) → y.count d < k → is_turn c (w.count c + 1) d k ≡ false
  not_turn d k h = by (c == d) refl
    where
      by : (b : Bool) → (c == d) ≡ b → (c == d && (w.count c + 1 == k)) ≡ false
      by true e =
          let same = eqb-true c d e in
          let apart : (w.count c + 1 == k) ≡ false = ne_eqb (w.count c + 1) k (λ q. omega (arith, q, h, raised_own, ap y.count same)) in
          ap₂ (λ a b. a && b) e apart
      by false e = ap (λ a. a && (w.count c + 1 == k)) e

  still : (d k : ℕ) → y.count d < k → y.first d k ≡ w.first d k
  still d k h = firsts d k ∙ takes.firsts d k ∙ ap (λ b. cond b None (w.first d k)) (not_turn d k h)

  one_more : next_of w c ≡ r ∷ next_of y c
  one_more =
      run_more (w.first c) (65536 - w.count c) (65536 - y.count c) (1 + w.count c) (1 + y.count c) r (omega (arith, low, raised_own)) (omega (arith, raised_own)) (ap (w.first c) (omega arith) ∙ takes.there)
      ∙ ap (λ rs. r ∷ rs) (run_same (w.first c) (y.first c) (1 + y.count c) (λ k h. sym (still c k (omega arith))) (65536 - y.count c) (1 + y.count c) (omega arith))

  grown : (d : ℕ) → w.count d ≤ y.count d
  grown d = by (c == d) (counts d ∙ takes.counts d)
    where
      by : (b : Bool) → y.count d ≡ cond b (w.count d + 1) (w.count d) → w.count d ≤ y.count d
      by true e = omega (arith, e)
      by false e = omega (arith, e)

  pub goes_step : Goes v c y before more
  goes_step = record {
    told =
        ap₂ (λ ms k. ms ++ k) told (told_min (w.ordered + 1) y.ordered (next_of y c) next)
        ∙ append_assoc now (told_from w.ordered (r ∷ [])) (told_from (w.ordered + 1) (next_of y c))
        ∙ ap (λ ms. now ++ ms) (append_assoc (cond (nat_lt w.ordered 65536) (PrePrepare (w.ordered + 1) r ∷ []) []) [] (told_from (w.ordered + 1) (next_of y c)))
        ∙ ap (λ rs. now ++ told_from w.ordered rs) (sym one_more) ∙ goes.told;
    counts = λ d. by d (c == d) (counts d ∙ takes.counts d) (goes.counts d);
    ordered_is = let long : length (next_of w c) ≡ length (next_of y c) + 1 = omega (arith, ap length one_more) in omega (arith, next, long, goes.ordered_is);
    firsts = λ d k h. still d k h ∙ goes.firsts d k (omega (arith, h, grown d));
  } where
    by : (d : ℕ) (b : Bool) → y.count d ≡ cond b (w.count d + 1) (w.count d) → w.count d + cond b (length (next_of w c)) 0 ≡ v.count d + cond (c == d) (length (next_of v c)) 0
        → y.count d + cond b (length (next_of y c)) 0 ≡ v.count d + cond (c == d) (length (next_of v c)) 0
    by d true e f = let long : length (next_of w c) ≡ length (next_of y c) + 1 = omega (arith, ap length one_more) in omega (arith, e, f, long)
    by d false e f = omega (arith, e, f)

-- where there is none, all is told
pub goes_end : (v w : View) (c : ℕ) (before now : List Message) → Goes v c w before now → next_of w c ≡ [] → w.ordered ≤ 65536
    → (x : View) → ((d k : ℕ) → x.first d k ≡ w.first d k) → ((d : ℕ) → x.count d ≡ w.count d) → x.ordered ≡ w.ordered → Advances v c (next_of v c) x × (now ≡ before ++ told_from v.ordered (next_of v c))
goes_end v w c before now goes none few x firsts counts ordered = (
  record {
    firsts = λ d k h. firsts d k ∙ goes.firsts d k (omega (arith, h, counts d));
    counts = λ d. counts d ∙ nothing d (c == d) (ap length none) ∙ goes.counts d;
    ordered_is = omega (arith, ordered, few, ap length none, goes.ordered_is);
  },
  sym (append-nil now) ∙ ap (λ rs. now ++ told_from w.ordered rs) (sym none) ∙ goes.told,
)
  where
    nothing : (d : ℕ) (b : Bool) → length (next_of w c) ≡ 0 → w.count d ≡ w.count d + cond b (length (next_of w c)) 0
    nothing d true e = omega (arith, e)
    nothing d false e = omega arith

pub none_next : (w x : View) (c : ℕ) → Lacks w c x → next_of w c ≡ []
none_next w x c lacks = run_none (w.first c) (65536 - w.count c) (1 + w.count c) (ap (w.first c) (omega arith) ∙ lacks.none)

pub full_next : (w : View) (c : ℕ) → 65536 ≤ w.count c → next_of w c ≡ []
full_next w c full = ap (λ n. run_of (w.first c) n (1 + w.count c)) (let zeros : 65536 - w.count c ≡ 0 = omega arith in zeros)

-- ---- requests stay in their grammar

abbrev pub Strings : (ℕ → ℕ → Option (List ℕ)) → Type 0
Strings first = (c n : ℕ) (r : List ℕ) → first c n ≡ Some r → IsAsked r

pub strings_same : (f g : ℕ → ℕ → Option (List ℕ)) → ((d k : ℕ) → g d k ≡ f d k) → Strings f → Strings g
strings_same f g same are c n r e = are c n r (sym (same c n) ∙ e)

pub strings_take : (f g : ℕ → ℕ → Option (List ℕ)) (b : ℕ → ℕ → Bool) → ((d k : ℕ) → g d k ≡ cond (b d k) None (f d k)) → Strings f → Strings g
strings_take f g b less are c n r e = by (b c n) (sym (less c n) ∙ e)
  where
    by : (t : Bool) → cond t None (f c n) ≡ Some r → IsAsked r
    by true h = absurd (cc h)
    by false h = are c n r h

pub strings_keep : (f g : ℕ → ℕ → Option (List ℕ)) (r : List ℕ) (b : ℕ → ℕ → Bool) → IsAsked r → ((d k : ℕ) → g d k ≡ option_or (f d k) (cond (b d k) (Some r) None)) → Strings f → Strings g
strings_keep f g r b is more are c n q e = by (f c n) (b c n) refl (sym (more c n) ∙ e)
  where
    by : (o : Option (List ℕ)) (t : Bool) → f c n ≡ o → option_or o (cond t (Some r) None) ≡ Some q → IsAsked q
    by (Some x) t h k = are c n q (h ∙ k)
    by None true h k = let same : r ≡ q = cc in subst IsAsked same is
    by None false h k = absurd (cc k)

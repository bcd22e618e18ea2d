-- A request from its client, and the orders that become next with it.
use Rattle.std.proofs.Common.{◌≡◌, ℕ, zero, suc, ◌+◌, ◌-◌, ◌<◌, ◌≤◌, min, Bool, true, false, cond, ◌==◌, ◌&&◌, List, [], ◌∷◌, ◌++◌, length, flat_map, count_by, Option, Some, None, refl, sym, ap, ap₂, ◌∙◌, subst, arith, length-append, append-nil}
use Rattle.std.specs.List.{range_with_len, AllByRecursion as Each}
use Rattle.std.specs.Option.{option_or}
use Rattle.std.proofs.lemmas.Bool.{eq-eqb}
use Rattle.std.proofs.lemmas.List.Sums.{sum_by-append, sum_by-cons}
use Rattle.ring_model.specs.Messages.{Ring, Letter, Client, Request, PrePrepare}
use Rattle.ring_model.specs.History.{first_word, said_by, run_of}
use Rattle.ring_model.specs.Member.{numbered, chain, ordered_by, orders, order_at}
use Rattle.ring_model.proofs.History.{run_holds}
use Rattle.ring_model.proofs.Ordered.{from_is}
use Rattle.member_orders.specs.Views.{View, is_turn, Keeps, Advances}
use Rattle.member_orders.specs.Told.{news_of, orders_told, told_from, next_of}
use Rattle.member_orders.specs.Standing.{Stands}
use Rattle.member_orders.proofs.Going.{run_same, told_min}
use Rattle.member_orders.proofs.Ranges.{place, flat_same, told_grown}

order_place : (g : Ring) (got : List Letter) (k : ℕ) → order_at g got k ≡ place (orders g got) k
order_place g got zero = refl
order_place g got (suc k) = refl

-- what is told of orders that grew
told_orders : (g : Ring) (older got : List Letter) (ys : List (List ℕ)) → g.slots ≡ 65536 → orders g got ≡ orders g older ++ ys → orders_told g older got ≡ told_from (length (orders g older)) ys
told_orders g older got ys limit grown =
    ap (λ n. flat_map (λ k. news_of (order_at g older k) (order_at g got k) (PrePrepare k)) (range_with_len 1 n)) limit
    ∙ flat_same (λ k. news_of (order_at g older k) (order_at g got k) (PrePrepare k)) (λ k. news_of (place (orders g older) k) (place (orders g older ++ ys) k) (PrePrepare k)) 65536 1
    (λ k h. ap₂ (λ o u. news_of o u (PrePrepare k)) (order_place g older k) (order_place g got k ∙ ap (λ xs. place xs k) grown))
    ∙ told_grown (orders g older) ys

count_one : (owner : List ℕ → ℕ) (c d : ℕ) (xs : List (List ℕ)) → Each (λ t. owner t ≡ c) xs → count_by (λ t. owner t == d) xs ≡ cond (c == d) (length xs) 0
count_one owner c d [] h = none (c == d)
  where
    none : (b : Bool) → ◌≡◌ {A = ℕ} 0 (cond b 0 0)
    none true = refl
    none false = refl
count_one owner c d (x ∷ xs) h =
    sum_by-cons (λ t. cond (owner t == d) 1 0) x xs
    ∙ ap₂ (λ a b. a + b) (ap {B = ℕ} (λ o. cond (o == d) 1 0) h.0) (count_one owner c d xs h.1)
    ∙ each (c == d)
  where
    each : (b : Bool) → ◌≡◌ {A = ℕ} (cond b 1 0 + cond b (length xs) 0) (cond b (length (x ∷ xs)) 0)
    each true = omega arith
    each false = refl

abbrev asked_by : Ring → List ℕ → Letter
asked_by g r = record { from = Client (g.owner r); message = Request r }

-- the words of clients after a request
word_after : (g : Ring) (r : List ℕ) (got : List Letter) (d k : ℕ) → first_word (Client d) (numbered g d k) (asked_by g r ∷ got) ≡ option_or (first_word (Client d) (numbered g d k) got) (cond (is_turn (g.owner r) (g.number r) d k) (Some r) None)
word_after g r got d k = ap (option_or (first_word (Client d) (numbered g d k) got)) (each (g.owner r == d) (g.number r == k))
  where
    each : (a b : Bool) → cond a (cond (a && b) (Some r) None) None ≡ cond (a && b) (Some r) None
    each true b = refl
    each false b = refl

module _ (g : Ring) (v m w : View) (r : List ℕ) (got : List Letter) (st : Stands g v got) (few : g.owner r < 16) (keeps : Keeps v (g.owner r) (g.number r) r m) (adv : Advances m (g.owner r) (next_of m (g.owner r)) w) where
  c : ℕ
  c = g.owner r

  kept_word : (d k : ℕ) → d < 16 → v.count d < k → m.first d k ≡ first_word (Client d) (numbered g d k) (asked_by g r ∷ got)
  kept_word d k low high = keeps.firsts d k ∙ ap (λ o. option_or o (cond (is_turn (g.owner r) (g.number r) d k) (Some r) None)) (st.waiting d k low high) ∙ sym (word_after g r got d k)

  same_count : m.count (g.owner r) ≡ count_by (λ t. g.owner t == g.owner r) (orders g got)
  same_count = keeps.counts (g.owner r) ∙ st.counted (g.owner r) few

  next_chain : next_of m (g.owner r) ≡ chain g (g.owner r) (asked_by g r ∷ got) (count_by (λ t. g.owner t == g.owner r) (orders g got))
  next_chain =
      run_same (m.first (g.owner r)) (λ k. first_word (Client (g.owner r)) (numbered g (g.owner r) k) (asked_by g r ∷ got)) (1 + m.count (g.owner r))
      (λ k h. kept_word (g.owner r) k few (omega (arith, h, keeps.counts (g.owner r)))) (65536 - m.count (g.owner r)) (1 + m.count (g.owner r)) (omega arith)
      ∙ ap₂ (λ n k. run_of (λ k. first_word (Client (g.owner r)) (numbered g (g.owner r) k) (asked_by g r ∷ got)) (n - k) (1 + k)) (sym st.limit) same_count

  grown : orders g (asked_by g r ∷ got) ≡ orders g got ++ next_of m (g.owner r)
  grown = ap (λ xs. orders g got ++ xs) (ap (λ b. cond b (chain g (g.owner r) (asked_by g r ∷ got) (count_by (λ t. g.owner t == g.owner r) (orders g got))) []) (eq-eqb (g.owner r) (g.owner r) refl) ∙ sym next_chain)

  owned : Each (λ t. g.owner t ≡ g.owner r) (next_of m (g.owner r))
  owned = subst (Each (λ t. g.owner t ≡ g.owner r)) (sym next_chain)
      (run_holds (λ k. first_word (Client (g.owner r)) (numbered g (g.owner r) k) (asked_by g r ∷ got)) (λ t. g.owner t ≡ g.owner r) (λ n y e. (from_is g (g.owner r) n (asked_by g r ∷ got) y e).0)
      (g.slots - count_by (λ t. g.owner t == g.owner r) (orders g got)) (1 + count_by (λ t. g.owner t == g.owner r) (orders g got)))

  no_less : (d : ℕ) → v.count d ≤ w.count d
  no_less d = by (g.owner r == d) (adv.counts d) (keeps.counts d)
    where
      by : (b : Bool) → w.count d ≡ m.count d + cond b (length (next_of m (g.owner r))) 0 → m.count d ≡ v.count d → v.count d ≤ w.count d
      by true e f = omega (arith, e, f)
      by false e f = omega (arith, e, f)

  pub takes_stands : Stands g w (asked_by g r ∷ got)
  takes_stands = record {
    limit = st.limit;
    ordered_is = omega (arith, adv.ordered_is, keeps.ordered_is, st.ordered_is, ap length grown, length-append (orders g got) (next_of m (g.owner r)));
    counted = λ d low.
        adv.counts d ∙ ap₂ (λ a b. a + b) (keeps.counts d ∙ st.counted d low) (sym (count_one g.owner (g.owner r) d (next_of m (g.owner r)) owned))
        ∙ sym (sum_by-append (λ t. cond (g.owner t == d) 1 0) (orders g got) (next_of m (g.owner r)))
        ∙ ap (count_by (λ t. g.owner t == d)) (sym grown);
    waiting = λ d k low high. adv.firsts d k high ∙ kept_word d k low (omega (arith, high, no_less d));
  }

  pub takes_told : told_from m.ordered (next_of m (g.owner r)) ≡ orders_told g got (asked_by g r ∷ got)
  takes_told = told_min (length (orders g got)) m.ordered (next_of m (g.owner r)) (keeps.ordered_is ∙ st.ordered_is) ∙ sym (told_orders g got (asked_by g r ∷ got) (next_of m (g.owner r)) st.limit grown)

-- ---- other letters

-- a letter that is no request from its own client
pub record Quiet (g : Ring) (l : Letter) : Type 0 where
  pub nothing : (older : List Letter) (done : List (List ℕ)) → ordered_by g older done l.from l.message ≡ []
  pub words : (d k : ℕ) → said_by (Client d) (numbered g d k) l ≡ None

or_none : {Y : Type 0} (o : Option Y) → option_or o None ≡ o
or_none None = refl
or_none (Some y) = refl

same_orders : (g : Ring) (l : Letter) (got : List Letter) → Quiet g l → orders g (l ∷ got) ≡ orders g got
same_orders g l got quiet = ap (λ xs. orders g got ++ xs) (quiet.nothing (l ∷ got) (orders g got)) ∙ append-nil (orders g got)

pub quiet_stands : (g : Ring) (v : View) (l : Letter) (got : List Letter) → Quiet g l → Stands g v got → Stands g v (l ∷ got)
quiet_stands g v l got quiet st =
    let same = same_orders g l got quiet in
    record {
      limit = st.limit;
      ordered_is = st.ordered_is ∙ ap (λ xs. min (length xs) 65536) (sym same);
      counted = λ d low. st.counted d low ∙ ap (count_by (λ t. g.owner t == d)) (sym same);
      waiting = λ d k low high. st.waiting d k low high ∙ sym (ap (option_or (first_word (Client d) (numbered g d k) got)) (quiet.words d k) ∙ or_none (first_word (Client d) (numbered g d k) got));
    }

pub quiet_told : (g : Ring) (l : Letter) (got : List Letter) → g.slots ≡ 65536 → Quiet g l → orders_told g got (l ∷ got) ≡ []
quiet_told g l got limit quiet = told_orders g got (l ∷ got) [] limit (same_orders g l got quiet ∙ sym (append-nil (orders g got)))

-- Where all was delivered, all was executed.
use Rattle.std.proofs.Common.{◌≡◌, ℕ, zero, suc, ◌+◌, ◌-◌, ◌*◌, ◌<◌, ◌≤◌, Bool, true, false, cond, ◌==◌, nat_le, List, [], ◌∷◌, length, slice_get, count_by, Contains, Option, Some, None, ◌⊎◌, inl, inr, ⊎_elim, bytes_eq, refl, sym, ap, ◌∙◌, subst, subst₂, arith}
use Rattle.std.specs.List.{list_any}
use Rattle.std.proofs.lemmas.Bool.{eq-eqb, and_from, le-leb, cases_Bool, cases_lt}
use Rattle.std.proofs.lemmas.List.Sums.{sum_by-cons, length-filter, count_by-le-length}
use Rattle.std.proofs.lemmas.List.FromFn.{length-range_with_len}
use Rattle.std.proofs.lemmas.Slice.Eq.{bytes_eq-Decides}
use Rattle.ring_model.specs.Messages.{Ring, Letter, Packet, Message, Request, PrePrepare, Prepare, Commit, Member, Client, members, FewFaulty}
use Rattle.ring_model.specs.History.{said_by, first_word, is_name, voters, run_of}
use Rattle.ring_model.specs.Member.{pre_prepares, prepares, commits, asks, endorsed, prepared, committed, executed, numbered, orders}
use Rattle.ring_model.specs.World.{World, world, Event, IsLegal}
use Rattle.ring_model.specs.Laws.{Right, IsSound, IsCorrect, IsHonest, AllExecuted, AllDelivered}
use Rattle.ring_model.proofs.History.{same_some, said_holds, passing_from, run_holds, passing_parts}
use Rattle.ring_model.proofs.Counting.{in_range}
use Rattle.ring_model.proofs.Owed.{all_owed}
use Rattle.ring_model.proofs.Agreement.{here, said_by_parts, word_right, prepares_is, commits_is, committed_parts, prefix_same}
use Rattle.ring_model.proofs.Lists.{there_first, there_later, Each-there, filter_there, any_there, said_there, at_short, run_has, run_reaches, run_there, short_by_owner, Each-from_there, there_filter, at_in}
use Rattle.ring_model.proofs.Complete.{IsComplete, all_complete, to_all}
use Rattle.ring_model.proofs.Ordered.{of_client, IsNumbered, all_numbered, from_client, from_is, numbered_is, client_orders}

pre_prepares_is : (s : ℕ) (m : Message) (r : List ℕ) → pre_prepares s m ≡ Some r → m ≡ PrePrepare s r
pre_prepares_is s (PrePrepare t x) r e = let h = here t s x r e in cc
pre_prepares_is s _ r e = absurd (cc e)

pub at_own : {Y : Type 0} (s : ℕ) (x : Y) → cond (s == s) (Some x) None ≡ Some x
at_own s x = ap (λ b. cond b (Some x) None) (eq-eqb s s refl)

-- at each place of the list one test or the other passes
either_there : (q r : ℕ → Bool) (xs : List ℕ) → ((x : ℕ) → Contains xs x → (q x ≡ true) ⊎ (r x ≡ true)) → length xs ≤ count_by q xs + count_by r xs
either_there q r [] f = omega arith
either_there q r (x ∷ xs) f =
    omega (arith, sum_by-cons (λ i. cond (q i) 1 0) x xs, sum_by-cons (λ i. cond (r i) 1 0) x xs, either_there q r xs (λ y c. f y (there_later x xs y c)), one (q x) (r x) (f x (there_first x xs)))
  where
    one : (a b : Bool) → (a ≡ true) ⊎ (b ≡ true) → 1 ≤ cond a 1 0 + cond b 1 0
    one true b h = omega arith
    one false true h = omega arith
    one false false h = ⊎_elim (λ e. absurd (cc e)) (λ e. absurd (cc e)) h

-- what every correct member says first is said by a quorum
pub enough_votes : (g : Ring) → FewFaulty g → (got : List Letter) (say : Message → Option (List ℕ)) (m : Message) (d : List ℕ) → say m ≡ Some d
    → ((i : ℕ) → IsCorrect g i → Contains got (record { from = Member i; message = m }))
    → ((i : ℕ) → IsCorrect g i → (z : List ℕ) → first_word (Member i) say got ≡ Some z → z ≡ d)
    → nat_le (2 * g.f + 1) (voters g say d got) ≡ true
enough_votes g few got say m d says came only =
    le-leb (2 * g.f + 1) (voters g say d got) (omega (arith, few, length-range_with_len 0 (3 * g.f + 1), either_there g.is_faulty (λ i. is_name d (first_word (Member i) say got)) (members g) (λ i c. vote i (in_range (3 * g.f + 1) i c) (cases_Bool (g.is_faulty i)))))
  where
    vote : (i : ℕ) → i < 3 * g.f + 1 → (g.is_faulty i ≡ true) ⊎ (g.is_faulty i ≡ false) → (g.is_faulty i ≡ true) ⊎ (is_name d (first_word (Member i) say got) ≡ true)
    vote i low (inl bad) = inl bad
    vote i low (inr ok) =
        let mine : said_by (Member i) say (record { from = Member i; message = m }) ≡ Some d = ap (λ b. cond b (say m) None) (eq-eqb i i refl) ∙ says in
        let z = said_there (said_by (Member i) say) got (record { from = Member i; message = m }) d (came i (low, ok)) mine in
        inr (ap (is_name d) z.1 ∙ (bytes_eq-Decides z.0 d).1 (only i (low, ok) z.0 z.1))

-- What holds where member 0 is correct and all was delivered: the orders of member 0 are the submitted requests, and each correct member has executed just these.
pub record IsSettled (g : Ring) (w : World) : Type 0 where
  pub sound : IsSound g w
  pub full : IsComplete g w
  pub nums : IsNumbered g w.submits
  pub came : (x : Packet) → Contains w.sent x → IsHonest g x.from → IsHonest g x.to → Contains (w.got x.to) (record { from = x.from; message = x.message })
  pub ordered : (t : List ℕ) → Contains w.submits t → Contains (orders g (w.got (Member 0))) t
  pub real : (t : List ℕ) → Contains (orders g (w.got (Member 0))) t → Contains w.submits t
  pub short : length (orders g (w.got (Member 0))) ≤ g.slots
  pub ran : (i : ℕ) → IsCorrect g i → executed g (w.got (Member i)) ≡ orders g (w.got (Member 0))

pub settled : (g : Ring) → FewFaulty g → g.is_faulty 0 ≡ false → (events : List Event) → IsLegal g events → AllDelivered g (world g events) → IsSettled g (world g events)
settled g few lead events legal delivered = record { sound = sound; full = full; nums = nums; came = came; ordered = ordered; real = real; short = short; ran = ran }
  where
    sound : IsSound g (world g events)
    sound = all_owed g events legal

    full : IsComplete g (world g events)
    full = all_complete g events

    nums : IsNumbered g (world g events).submits
    nums = all_numbered g events legal

    first : List Letter
    first = (world g events).got (Member 0)

    came : (x : Packet) → Contains (world g events).sent x → IsHonest g x.from → IsHonest g x.to → Contains ((world g events).got x.to) (record { from = x.from; message = x.message })
    came x h = Each-there (λ x. IsHonest g x.from → IsHonest g x.to → Contains ((world g events).got x.to) (record { from = x.from; message = x.message })) (world g events).sent x delivered h

    asked : (j : ℕ) → IsCorrect g j → (t : List ℕ) → Contains (world g events).submits t → Contains ((world g events).got (Member j)) (record { from = Client (g.owner t); message = Request t })
    asked j good t h = came (record { from = Client (g.owner t); to = Member j; message = Request t }) (full.asked t h j good.0) tt good.1

    zero_ok : IsCorrect g 0
    zero_ok = (omega arith, lead)

    -- what member 0 has from clients was submitted
    submitted : (d n : ℕ) (z : List ℕ) → from_client g d ((world g events).got (Member 0)) n ≡ Some z → Contains (world g events).submits z
    submitted d n z e =
        said_holds (said_by (Client d) (numbered g d n)) (λ l. Right g (world g events) l.from (Member 0) l.message) (Contains (world g events).submits)
        (λ l y right says.
        let parts = said_by_parts (Client d) (numbered g d n) l y says in
        let h = subst₂ (λ f x. Right g (world g events) f (Member 0) x) parts.0 (numbered_is g d n l.message y parts.1).0 right in
        h.0)
        ((world g events).got (Member 0)) z (sound.got (Member 0)) e

    -- each number up to a submitted one has come
    has : (d m : ℕ) → 1 ≤ m → m ≤ count_by (of_client g d) (world g events).submits → (z : List ℕ) × (from_client g d ((world g events).got (Member 0)) m ≡ Some z)
    has d m low high =
        let t = nums.each d m low high in
        let x : Letter = record { from = Client (g.owner t.0); message = Request t.0 } in
        let says : said_by (Client d) (numbered g d m) x ≡ Some t.0
        = ap (λ b. cond b (numbered g d m (Request t.0)) None) (eq-eqb (g.owner t.0) d t.2) ∙ ap (λ b. cond b (Some t.0) None) (and_from (g.owner t.0 == d) (g.number t.0 == m) (eq-eqb (g.owner t.0) d t.2) (eq-eqb (g.number t.0) m t.3)) in
        said_there (said_by (Client d) (numbered g d m)) ((world g events).got (Member 0)) x t.0 (asked 0 zero_ok t.0 t.1) says

    ordered : (t : List ℕ) → Contains (world g events).submits t → Contains (orders g ((world g events).got (Member 0))) t
    ordered t h =
        let num = nums.number t h in
        let got = (world g events).got (Member 0) in
        let z = has (g.owner t) (g.number t) num.0 num.1 in
        let is = from_is g (g.owner t) (g.number t) got z.0 z.1 in
        let same : z.0 ≡ t = nums.unique z.0 t (submitted (g.owner t) (g.number t) z.0 z.1) h is.0 is.1 in
        let word : from_client g (g.owner t) got (1 + (g.number t - 1)) ≡ Some t = ap (from_client g (g.owner t) got) (omega arith) ∙ z.1 ∙ ap Some same in
        filter_there (of_client g (g.owner t)) (orders g got) t
        (subst (λ xs. Contains xs t) (sym (client_orders g (g.owner t) got))
        (run_there (from_client g (g.owner t) got) g.slots 1 (g.number t - 1) t
        (λ m l. has (g.owner t) (1 + m) (omega arith) (omega (arith, num.1)))
        word (omega (arith, num.0, num.1, nums.few, count_by-le-length (of_client g (g.owner t)) (world g events).submits))))

    real : (t : List ℕ) → Contains (orders g ((world g events).got (Member 0))) t → Contains (world g events).submits t
    real t h =
        let got = (world g events).got (Member 0) in
        let own = there_filter (of_client g (g.owner t)) (orders g got) t h (eq-eqb (g.owner t) (g.owner t) refl) in
        Each-there (Contains (world g events).submits) (run_of (from_client g (g.owner t) got) g.slots 1) t
        (run_holds (from_client g (g.owner t) got) (Contains (world g events).submits) (λ n y e. submitted (g.owner t) n y e) g.slots 1)
        (subst (λ xs. Contains xs t) (client_orders g (g.owner t) got) own)

    fewer : (d : ℕ) → count_by (of_client g d) (orders g ((world g events).got (Member 0))) ≤ count_by (of_client g d) (world g events).submits
    fewer d = at (length (run_of (from_client g d ((world g events).got (Member 0))) g.slots 1)) refl
      where
        at : (n : ℕ) → length (run_of (from_client g d ((world g events).got (Member 0))) g.slots 1) ≡ n → count_by (of_client g d) (orders g ((world g events).got (Member 0))) ≤ count_by (of_client g d) (world g events).submits
        at zero e = omega (arith, length-filter (of_client g d) (orders g ((world g events).got (Member 0))), ap length (client_orders g d ((world g events).got (Member 0))), e)
        at (suc n) e =
            let got = (world g events).got (Member 0) in
            let y = run_has (from_client g d got) g.slots 1 n (omega (arith, e)) in
            let is = from_is g d (1 + n) got y.0 y.1 in
            let bound = (nums.number y.0 (submitted d (1 + n) y.0 y.1)).1 in
            let same = ap (λ k. count_by (of_client g k) (world g events).submits) is.0 in
            omega (arith, length-filter (of_client g d) (orders g got), ap length (client_orders g d got), e, bound, same, is.1)

    short : length (orders g ((world g events).got (Member 0))) ≤ g.slots
    short =
        let got = (world g events).got (Member 0) in
        omega (
          arith,
          nums.few,
          short_by_owner g.owner g.clients (orders g got) (world g events).submits
              (Each-from_there (λ t. g.owner t < g.clients) (orders g got) (λ t h. Each-there (λ t. g.owner t < g.clients) (world g events).submits t nums.owners (real t h)))
              nums.owners fewer,
        )

    -- the order of each slot is endorsed, prepared and committed at each correct member
    endorse : (k : ℕ) (t : List ℕ) → slice_get (orders g ((world g events).got (Member 0))) k ≡ Some t → (j : ℕ) → IsCorrect g j → endorsed g ((world g events).got (Member j)) (suc k) ≡ Some t
    endorse k t e j good =
        let got = (world g events).got (Member j) in
        let low = at_short (orders g ((world g events).got (Member 0))) k t e in
        let x : Letter = record { from = Member 0; message = PrePrepare (suc k) t } in
        let there = came (record { from = Member 0; to = Member j; message = PrePrepare (suc k) t }) (full.orders lead (suc k) t (omega arith) (omega (arith, short, low)) e (record { from = Member 0; to = Member j; message = PrePrepare (suc k) t }) (to_all g (Member 0) (PrePrepare (suc k) t) j good.0)) lead good.1 in
        let z = said_there (said_by (Member 0) (pre_prepares (suc k))) got x t there (at_own (suc k) t) in
        let right = word_right g (world g events) sound (Member 0) (Member j) (pre_prepares (suc k)) z.0 (PrePrepare (suc k) z.0) (λ m. pre_prepares_is (suc k) m z.0) z.1 lead in
        let same : z.0 ≡ t = same_some z.0 t (sym right.1 ∙ e) in
        passing_from (λ r. list_any (asks g r) got) (first_word (Member 0) (pre_prepares (suc k)) got) t (z.1 ∙ ap Some same)
        (any_there (asks g t) got (record { from = Client (g.owner t); message = Request t }) (asked j good t (real t (at_in (orders g ((world g events).got (Member 0))) k t e)))
        (and_from (g.owner t == g.owner t) (bytes_eq t t) (eq-eqb (g.owner t) (g.owner t) refl) ((bytes_eq-Decides t t).1 refl)))

    prepare : (k : ℕ) (t : List ℕ) → slice_get (orders g ((world g events).got (Member 0))) k ≡ Some t → (j : ℕ) → IsCorrect g j → prepared g ((world g events).got (Member j)) (suc k) ≡ Some t
    prepare k t e j good =
        let got = (world g events).got (Member j) in
        let low = at_short (orders g ((world g events).got (Member 0))) k t e in
        passing_from (λ r. nat_le (2 * g.f + 1) (voters g (prepares (suc k)) (g.h r) got)) (endorsed g got (suc k)) t (endorse k t e j good)
        (enough_votes g few got (prepares (suc k)) (Prepare (suc k) (g.h t)) (g.h t) (at_own (suc k) (g.h t))
        (λ i fine. came (record { from = Member i; to = Member j; message = Prepare (suc k) (g.h t) }) (full.prepares i fine.1 (suc k) t (omega arith) (omega (arith, short, low)) (endorse k t e i fine) (record { from = Member i; to = Member j; message = Prepare (suc k) (g.h t) }) (to_all g (Member i) (Prepare (suc k) (g.h t)) j good.0)) fine.1 good.1)
        (λ i fine z says.
        let right = word_right g (world g events) sound (Member i) (Member j) (prepares (suc k)) z (Prepare (suc k) z) (λ m. prepares_is (suc k) m z) says fine.1 in
        sym right.2 ∙ ap g.h (same_some right.0 t (sym right.1 ∙ endorse k t e i fine))))

    commit : (k : ℕ) (t : List ℕ) → slice_get (orders g ((world g events).got (Member 0))) k ≡ Some t → (j : ℕ) → IsCorrect g j → committed g ((world g events).got (Member j)) (suc k) ≡ Some t
    commit k t e j good =
        let got = (world g events).got (Member j) in
        let low = at_short (orders g ((world g events).got (Member 0))) k t e in
        passing_from (λ r. nat_le (2 * g.f + 1) (voters g (commits (suc k)) (g.h r) got)) (prepared g got (suc k)) t (prepare k t e j good)
        (enough_votes g few got (commits (suc k)) (Commit (suc k) (g.h t)) (g.h t) (at_own (suc k) (g.h t))
        (λ i fine. came (record { from = Member i; to = Member j; message = Commit (suc k) (g.h t) }) (full.commits i fine.1 (suc k) t (omega arith) (omega (arith, short, low)) (prepare k t e i fine) (record { from = Member i; to = Member j; message = Commit (suc k) (g.h t) }) (to_all g (Member i) (Commit (suc k) (g.h t)) j good.0)) fine.1 good.1)
        (λ i fine z says.
        let right = word_right g (world g events) sound (Member i) (Member j) (commits (suc k)) z (Commit (suc k) z) (λ m. commits_is (suc k) m z) says fine.1 in
        sym right.2 ∙ ap g.h (same_some right.0 t (sym right.1 ∙ prepare k t e i fine))))

    -- nothing is endorsed beyond the orders
    stops : (j : ℕ) → IsCorrect g j → length (executed g ((world g events).got (Member j))) ≤ length (orders g ((world g events).got (Member 0)))
    stops j good =
        ⊎_elim
        (λ more.
        let got = (world g events).got (Member j) in
        let n = length (orders g ((world g events).got (Member 0))) in
        let y = run_has (committed g got) g.slots 1 n more in
        let e = (committed_parts g got (suc n) y.0 (ap (committed g got) (omega arith) ∙ y.1)).1 in
        let word = (passing_parts (λ r. list_any (asks g r) got) (first_word (Member 0) (pre_prepares (suc n)) got) y.0 e).0 in
        let right = word_right g (world g events) sound (Member 0) (Member j) (pre_prepares (suc n)) y.0 (PrePrepare (suc n) y.0) (λ m. pre_prepares_is (suc n) m y.0) word lead in
        absurd (omega (arith, at_short (orders g ((world g events).got (Member 0))) n y.0 right.1)))
        (λ fits. fits)
        (cases_lt (length (orders g ((world g events).got (Member 0)))) (length (executed g ((world g events).got (Member j)))))

    ran : (j : ℕ) → IsCorrect g j → executed g ((world g events).got (Member j)) ≡ orders g ((world g events).got (Member 0))
    ran j good =
        sym (prefix_same (orders g ((world g events).got (Member 0))) (executed g ((world g events).got (Member j)))
        (run_reaches (committed g ((world g events).got (Member j))) (orders g ((world g events).got (Member 0))) g.slots 1 short
        (λ k t e. ap (committed g ((world g events).got (Member j))) (omega arith) ∙ commit k t e j good))
        (stops j good))

pub all_executed : AllExecuted
all_executed g few lead events legal delivered i ok r c =
    let st = settled g few lead events legal delivered in
    subst (λ xs. Contains xs r) (sym (st.ran i ok)) (st.ordered r c)

-- What is newly owed, seen in what is kept.
use Rattle.std.proofs.Common.{◌≡◌, ℕ, zero, suc, ◌+◌, ◌-◌, ◌*◌, ◌<◌, ◌≤◌, Bool, true, false, cond, ◌==◌, nat_le, nat_lt, List, [], ◌∷◌, ◌++◌, length, flat_map, Option, Some, None, option_map, refl, sym, ap, ap₂, ◌∙◌, arith, append-nil, ⊎_elim, bytes_eq}
use Rattle.std.specs.List.{range_with_len}
use Rattle.std.specs.Option.{option_or}
use Rattle.std.proofs.lemmas.Bool.{ne_eqb, cases_eq, cases_lt, cases_Bool}
use Rattle.std.proofs.lemmas.Slice.Eq.{bytes_eq-Decides}
use Rattle.quorum.specs.declared.phase.Phase.{Phase}
use Rattle.quorum.specs.declared.phase.Phase.TheVariants as phase
use Rattle.quorum.specs.Tallies.{count}
use Rattle.quorum.specs.Slots.{is_phase}
use Rattle.quorum.specs.Windows.{Votes, first}
use Rattle.ring_model.specs.Messages.{Ring, Letter, Message, Prepare, Commit}
use Rattle.ring_model.specs.History.{is_name, voters, passing}
use Rattle.ring_model.specs.Member.{prepares, commits, endorsed, prepared, committed}
use Rattle.ring_model.proofs.History.{passing_parts}
use Rattle.ring_model.proofs.Lists.{run_has}
use Rattle.ring_member.specs.Views.{View, inner, and_then, proposal, is_order, endorsed_in, is_voted, prepared_in, Casts, Proposes, Hears}
use Rattle.ring_member.specs.Standing.{order, Live, Stands}
use Rattle.member_orders.specs.Told.{news_of}
use Rattle.ring_member.specs.Told.{votes_told, prepare_heard, commit_heard}
use Rattle.ring_member.proofs.Deciding.{endorsed_is, prepared_is}
use Rattle.vote_model.specs.Joins.{letter}
use Rattle.ring_member.proofs.Letters.{or_none, proposal_same, cast_live, propose_live}

-- ---- news

pub no_news : {X Y : Type 0} (o : Option X) (tell : X → Y) → news_of o o tell ≡ []
no_news None tell = refl
no_news (Some x) tell = refl

news_map : {X Y Z : Type 0} (h : X → Y) (o u : Option X) (tell : Y → Z) → news_of (option_map h o) (option_map h u) tell ≡ news_of o u (λ x. tell (h x))
news_map h None None tell = refl
news_map h None (Some x) tell = refl
news_map h (Some y) u tell = refl

-- what a slot newly is owed, by what is kept
abbrev pub prepare_new : View → View → ℕ → List Message
prepare_new v w s = news_of (endorsed_in v s) (endorsed_in w s) (Prepare s)

abbrev pub commit_new : ℕ → View → View → ℕ → List Message
commit_new f v w s = news_of (prepared_in f v s) (prepared_in f w s) (Commit s)

-- ---- an executed slot was endorsed and prepared

executed_has : (g : Ring) (f : ℕ) (v : View) (got : List Letter) → Stands g f v got → (s : ℕ) → 1 ≤ s → s ≤ length v.done → (r : List ℕ) × (endorsed g got s ≡ Some r) × (prepared g got s ≡ Some r)
executed_has g f v got st s low high =
    let has = run_has (committed g got) g.slots 1 (s - 1) (omega (arith, low, high, ap length st.ran)) in
    let here : committed g got s ≡ Some has.0 = ap (committed g got) (omega arith) ∙ has.1 in
    let now = passing_parts (λ r. nat_le (2 * g.f + 1) (voters g (commits s) (g.h r) got)) (prepared g got s) has.0 here in
    let before = passing_parts (λ r. nat_le (2 * g.f + 1) (voters g (prepares s) (g.h r) got)) (endorsed g got s) has.0 now.0 in
    (has.0, before.0, now.0)

-- nothing is endorsed of what is dropped
dropped_endorsed : (v : View) (s : ℕ) → v.slot s ≡ None → endorsed_in v s ≡ None
dropped_endorsed v s e = ap (λ o. and_then (inner o) v.name) e

pub flat_same : {X : Type 0} (F G : ℕ → List X) (n a : ℕ) → ((s : ℕ) → a ≤ s → F s ≡ G s) → flat_map F (range_with_len a n) ≡ flat_map G (range_with_len a n)
flat_same F G zero a h = refl
flat_same F G (suc n) a h = ap₂ (λ xs ys. xs ++ ys) (h a (omega arith)) (flat_same F G n (a + 1) (λ s l. h s (omega arith)))

module _ (g : Ring) (f : ℕ) (v w : View) (older got : List Letter) (st : Stands g f v older) (live : Live g f w got) (same : w.done ≡ v.done) where
  prepare_each : (s : ℕ) → 1 ≤ s → news_of (endorsed g older s) (endorsed g got s) (λ r. Prepare s (g.h r)) ≡ prepare_new v w s
  prepare_each s low = ⊎_elim
      (λ high. sym (ap₂ (λ o u. news_of o u (Prepare s)) (endorsed_is g f v older s st.live high) (endorsed_is g f w got s live (omega (arith, high, ap length same))) ∙ news_map g.h (endorsed g older s) (endorsed g got s) (Prepare s)))
      (λ late.
      let was = executed_has g f v older st s low late in
      ap (λ o. news_of o (endorsed g got s) (λ r. Prepare s (g.h r))) was.1
      ∙ sym (ap₂ (λ o u. news_of o u (Prepare s)) (dropped_endorsed v s (st.live.dropped s late)) (dropped_endorsed w s (live.dropped s (omega (arith, late, ap length same))))))
      (cases_lt (length v.done) s)

  commit_each : (s : ℕ) → 1 ≤ s → news_of (prepared g older s) (prepared g got s) (λ r. Commit s (g.h r)) ≡ commit_new f v w s
  commit_each s low = ⊎_elim
      (λ high. sym (ap₂ (λ o u. news_of o u (Commit s)) (prepared_is g f v older s st.live high) (prepared_is g f w got s live (omega (arith, high, ap length same))) ∙ news_map g.h (prepared g older s) (prepared g got s) (Commit s)))
      (λ late.
      let was = executed_has g f v older st s low late in
      ap (λ o. news_of o (prepared g got s) (λ r. Commit s (g.h r))) was.2
      ∙ sym (ap₂ (λ o u. news_of o u (Commit s)) (ap (passing (is_voted f phase.Prepare v s)) (dropped_endorsed v s (st.live.dropped s late))) (ap (passing (is_voted f phase.Prepare w s)) (dropped_endorsed w s (live.dropped s (omega (arith, late, ap length same)))))))
      (cases_lt (length v.done) s)

  pub told_is : votes_told g older got ≡ flat_map (prepare_new v w) (range_with_len 1 65536) ++ flat_map (commit_new f v w) (range_with_len 1 65536)
  told_is =
      ap (λ n. flat_map (λ s. news_of (endorsed g older s) (endorsed g got s) (λ r. Prepare s (g.h r))) (range_with_len 1 n) ++ flat_map (λ s. news_of (prepared g older s) (prepared g got s) (λ r. Commit s (g.h r))) (range_with_len 1 n)) live.limit
      ∙ ap₂ (λ xs ys. xs ++ ys)
      (flat_same (λ s. news_of (endorsed g older s) (endorsed g got s) (λ r. Prepare s (g.h r))) (prepare_new v w) 65536 1 prepare_each)
      (flat_same (λ s. news_of (prepared g older s) (prepared g got s) (λ r. Commit s (g.h r))) (commit_new f v w) 65536 1 commit_each)

-- ---- one slot alone

pub flat_nil : {X : Type 0} (F : ℕ → List X) (n a : ℕ) → ((s : ℕ) → a ≤ s → F s ≡ []) → flat_map F (range_with_len a n) ≡ []
flat_nil F zero a h = refl
flat_nil F (suc n) a h = ap (λ xs. xs ++ flat_map F (range_with_len (a + 1) n)) (h a (omega arith)) ∙ flat_nil F n (a + 1) (λ s k. h s (omega arith))

only_at : {X : Type 0} (F : ℕ → List X) (t : ℕ) → ((s : ℕ) → (s ≡ t → ⊥) → F s ≡ []) → (n a : ℕ) → a ≤ t → t < a + n → flat_map F (range_with_len a n) ≡ F t
only_at F t h zero a low high = absurd (omega arith)
only_at F t h (suc n) a low high =
    ⊎_elim
    (λ same. ap₂ (λ xs ys. xs ++ ys) (ap F same) (flat_nil F n (a + 1) (λ s k. h s (λ e. omega arith))) ∙ append-nil (F t))
    (λ other. ap (λ xs. xs ++ flat_map F (range_with_len (a + 1) n)) (h a other) ∙ only_at F t h n (a + 1) (omega arith) (omega arith))
    (cases_eq a t)

-- where other slots are endorsed and prepared as they were
pub told_at : (f : ℕ) (v w : View) (t : ℕ) → 1 ≤ t → t ≤ 65536 → ((s : ℕ) → (s ≡ t → ⊥) → endorsed_in w s ≡ endorsed_in v s) → ((s : ℕ) → (s ≡ t → ⊥) → prepared_in f w s ≡ prepared_in f v s)
    → flat_map (prepare_new v w) (range_with_len 1 65536) ++ flat_map (commit_new f v w) (range_with_len 1 65536) ≡ prepare_new v w t ++ commit_new f v w t
told_at f v w t low high es ps =
    ap₂ (λ xs ys. xs ++ ys)
    (only_at (prepare_new v w) t (λ s apart. ap (λ o. news_of (endorsed_in v s) o (Prepare s)) (es s apart) ∙ no_news (endorsed_in v s) (Prepare s)) 65536 1 low (omega arith))
    (only_at (commit_new f v w) t (λ s apart. ap (λ o. news_of (prepared_in f v s) o (Commit s)) (ps s apart) ∙ no_news (prepared_in f v s) (Commit s)) 65536 1 low (omega arith))

-- nothing is owed anew where what is kept stays
pub told_nothing : (g : Ring) (f : ℕ) (v : View) (older got : List Letter) → Stands g f v older → Live g f v got → votes_told g older got ≡ []
told_nothing g f v older got st live =
    told_is g f v v older got st live refl
    ∙ ap₂ (λ xs ys. xs ++ ys) (flat_nil (prepare_new v v) 65536 1 (λ s h. no_news (endorsed_in v s) (Prepare s))) (flat_nil (commit_new f v v) 65536 1 (λ s h. no_news (prepared_in f v s) (Commit s)))

-- ---- a vote

same_names : (v w : View) (o : Option (List ℕ)) → ((r : List ℕ) → w.name r ≡ v.name r) → and_then o w.name ≡ and_then o v.name
same_names v w None h = refl
same_names v w (Some r) h = h r

pub cast_endorsed : (v w : View) (p : Phase) (t k : ℕ) (d : List ℕ) → Casts v p t k d w → (s : ℕ) → endorsed_in w s ≡ endorsed_in v s
cast_endorsed v w p t k d does s = ap (λ o. and_then o w.name) (proposal_same t v w does.slots s) ∙ same_names v w (proposal v s) does.names

cast_first : (v w : View) (p : Phase) (t k : ℕ) (d : List ℕ) → Casts v p t k d w → (s : ℕ) → (s ≡ t → ⊥) → (q : Phase) (j : ℕ) → first w.votes q s j ≡ first v.votes q s j
cast_first v w p t k d does s apart q j =
    does.first_votes q s j
    ∙ ap (option_or (first v.votes q s j)) (ap (λ b. cond (nat_lt v.votes.floor s) (cond (is_phase p q) (cond (k == j) (cond b (Some d) None) None) None) None) (ne_eqb t s (λ e. apart (sym e))) ∙ nothing (nat_lt v.votes.floor s) (is_phase p q) (k == j))
    ∙ or_none (first v.votes q s j)
  where
    nothing : (a b c : Bool) → ◌≡◌ {A = Option (List ℕ)} (cond a (cond b (cond c None None) None) None) None
    nothing true true true = refl
    nothing true true false = refl
    nothing true false c = refl
    nothing false b c = refl

passing_pointwise : {X : Type 0} (p q : X → Bool) (o u : Option X) → o ≡ u → ((x : X) → p x ≡ q x) → passing p o ≡ passing q u
passing_pointwise {X} p q o u e h = ap (passing p) e ∙ each u
  where
    each : (u : Option X) → passing p u ≡ passing q u
    each None = refl
    each (Some x) = ap (λ b. cond b (Some x) None) (h x)

pub cast_prepared : (f : ℕ) (v w : View) (p : Phase) (t k : ℕ) (d : List ℕ) → Casts v p t k d w → (s : ℕ) → (s ≡ t → ⊥) → prepared_in f w s ≡ prepared_in f v s
cast_prepared f v w p t k d does s apart =
    passing_pointwise (is_voted f phase.Prepare w s) (is_voted f phase.Prepare v s) (endorsed_in w s) (endorsed_in v s) (cast_endorsed v w p t k d does s)
    (λ n. ap (λ (one : ℕ → Option (List ℕ)). nat_le (2 * f + 1) (count one n)) (λ i j. cast_first v w p t k d does s apart phase.Prepare j i))

-- ---- an order

pub propose_endorsed : (v w : View) (t : ℕ) (r : List ℕ) → Proposes v t r w → (s : ℕ) → (s ≡ t → ⊥) → endorsed_in w s ≡ endorsed_in v s
propose_endorsed v w t r does s apart =
    ap (λ o. and_then (inner o) w.name) (does.slots s ∙ ap (λ b. cond b (Some (option_or (proposal v s) (Some r))) (v.slot s)) (ne_eqb s t apart))
    ∙ same_names v w (proposal v s) does.names

pub propose_prepared : (f : ℕ) (v w : View) (t : ℕ) (r : List ℕ) → Proposes v t r w → (s : ℕ) → (s ≡ t → ⊥) → prepared_in f w s ≡ prepared_in f v s
propose_prepared f v w t r does s apart =
    passing_pointwise (is_voted f phase.Prepare w s) (is_voted f phase.Prepare v s) (endorsed_in w s) (endorsed_in v s) (propose_endorsed v w t r does s apart)
    (λ n. ap (λ (u : Votes). nat_le (2 * f + 1) (count (first u phase.Prepare s) n)) does.votes_are)

-- ---- a request from its client

other_way : (r q : List ℕ) → bytes_eq q r ≡ false → bytes_eq r q ≡ false
other_way r q e = ⊎_elim (λ t. absurd (cc (e, (bytes_eq-Decides q r).1 (sym ((bytes_eq-Decides r q).0 t))))) (λ f. f) (cases_Bool (bytes_eq r q))

module _ (v w : View) (r n : List ℕ) (new : v.name r ≡ None) (does : Hears v r n w) where
  heard_proposal : (s : ℕ) → proposal w s ≡ proposal v s
  heard_proposal s = ap inner (does.slots s)

  -- a name under which a slot is endorsed then was there before, unless the order is of the request
  heard_name : (o : Option (List ℕ)) → (is_name r o ≡ true → (and_then o v.name ≡ None) × (and_then o w.name ≡ Some n)) × (is_name r o ≡ false → and_then o w.name ≡ and_then o v.name)
  heard_name None = ((λ e. absurd (cc e)), (λ e. refl))
  heard_name (Some q) = (
    (λ e. let same = (bytes_eq-Decides q r).0 e in (ap v.name same ∙ new, does.names q ∙ ap (λ b. cond b (Some n) (v.name q)) ((bytes_eq-Decides r q).1 (sym same)))),
    (λ e. does.names q ∙ ap (λ b. cond b (Some n) (v.name q)) (other_way r q e)),
  )

  pub prepare_heard_is : (s : ℕ) → prepare_new v w s ≡ prepare_heard w r n s
  prepare_heard_is s = by (is_order v r s) refl ∙ ap (λ o. cond (is_name r o) (Prepare s n ∷ []) []) (sym (heard_proposal s))
    where
      by : (b : Bool) → is_order v r s ≡ b → prepare_new v w s ≡ cond (is_order v r s) (Prepare s n ∷ []) []
      by true e =
          let h = (heard_name (proposal v s)).0 e in
          ap₂ (λ o u. news_of o u (Prepare s)) h.0 (ap (λ o. and_then o w.name) (heard_proposal s) ∙ h.1) ∙ sym (ap (λ b. cond b (Prepare s n ∷ []) []) e)
      by false e =
          ap (λ o. news_of (endorsed_in v s) o (Prepare s)) (ap (λ o. and_then o w.name) (heard_proposal s) ∙ (heard_name (proposal v s)).1 e) ∙ no_news (endorsed_in v s) (Prepare s)
          ∙ sym (ap (λ b. cond b (Prepare s n ∷ []) []) e)

  same_votes : (f : ℕ) (s : ℕ) (d : List ℕ) → is_voted f phase.Prepare w s d ≡ is_voted f phase.Prepare v s d
  same_votes f s d = ap (λ (u : Votes). nat_le (2 * f + 1) (count (first u phase.Prepare s) d)) does.votes_are

  news_then : (s : ℕ) (b : Bool) → news_of None (cond b (Some n) None) (Commit s) ≡ cond b (Commit s n ∷ []) []
  news_then s true = refl
  news_then s false = refl

  pub commit_heard_is : (f : ℕ) (s : ℕ) → commit_new f v w s ≡ commit_heard f w r n s
  commit_heard_is f s = by (is_order v r s) refl ∙ ap (λ b. cond b (cond (is_voted f phase.Prepare w s n) (Commit s n ∷ []) []) []) (ap (is_name r) (sym (heard_proposal s)))
    where
      by : (b : Bool) → is_order v r s ≡ b → commit_new f v w s ≡ cond (is_order v r s) (cond (is_voted f phase.Prepare w s n) (Commit s n ∷ []) []) []
      by true e =
          let h = (heard_name (proposal v s)).0 e in
          ap₂ (λ o u. news_of o u (Commit s)) (ap (passing (is_voted f phase.Prepare v s)) h.0) (ap (passing (is_voted f phase.Prepare w s)) (ap (λ o. and_then o w.name) (heard_proposal s) ∙ h.1))
          ∙ news_then s (is_voted f phase.Prepare w s n) ∙ sym (ap (λ b. cond b (cond (is_voted f phase.Prepare w s n) (Commit s n ∷ []) []) []) e)
      by false e =
          let same : prepared_in f w s ≡ prepared_in f v s
          = passing_pointwise (is_voted f phase.Prepare w s) (is_voted f phase.Prepare v s) (endorsed_in w s) (endorsed_in v s) (ap (λ o. and_then o w.name) (heard_proposal s) ∙ (heard_name (proposal v s)).1 e) (same_votes f s) in
          ap (λ o. news_of (prepared_in f v s) o (Commit s)) same ∙ no_news (prepared_in f v s) (Commit s) ∙ sym (ap (λ b. cond b (cond (is_voted f phase.Prepare w s n) (Commit s n ∷ []) []) []) e)

-- ---- what is owed for a vote, and for an order

pub vote_told : (g : Ring) (f : ℕ) (v w : View) (got : List Letter) (p : Phase) (k t : ℕ) (d : List ℕ) → Stands g f v got → Casts v p t k d w → length v.done < t → 1 ≤ t → t ≤ 65536 → k < 3 * g.f + 1
    → commit_new f v w t ≡ votes_told g got (letter p k t d ∷ got)
vote_told g f v w got p k t d st does above low high seat =
    sym (told_is g f v w got (letter p k t d ∷ got) st (cast_live g f v w got p k t d st.live does above high seat) does.done_is
    ∙ told_at f v w t low high (λ s apart. cast_endorsed v w p t k d does s) (λ s apart. cast_prepared f v w p t k d does s apart)
    ∙ ap (λ xs. xs ++ commit_new f v w t) (ap (λ o. news_of (endorsed_in v t) o (Prepare t)) (cast_endorsed v w p t k d does t) ∙ no_news (endorsed_in v t) (Prepare t)))

pub order_told : (g : Ring) (f : ℕ) (v w : View) (got : List Letter) (t : ℕ) (r : List ℕ) → Stands g f v got → Proposes v t r w → length v.done < t → 1 ≤ t → t ≤ 65536
    → prepare_new v w t ++ commit_new f v w t ≡ votes_told g got (order t r ∷ got)
order_told g f v w got t r st does above low high =
    sym (told_is g f v w got (order t r ∷ got) st (propose_live g f v w got t r st.live does above high) does.done_is
    ∙ told_at f v w t low high (propose_endorsed v w t r does) (propose_prepared f v w t r does))

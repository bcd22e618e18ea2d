-- Where all was delivered, clients believe the outcomes and the last versions.
use Rattle.std.proofs.Common.{◌≡◌, ℕ, zero, suc, ◌+◌, ◌-◌, ◌*◌, ◌<◌, ◌≤◌, Bool, true, false, cond, ◌==◌, nat_le, nat_lt, List, [], ◌∷◌, length, take, drop, slice_get, Contains, Option, Some, None, is_some, ◌⊎◌, inl, inr, ⊎_elim, bytes_eq, refl, sym, ap, ◌∙◌, subst, arith, take-append-drop, not, map}
use Rattle.std.specs.List.{range_with_len}
use Rattle.std.specs.Option.{option_or, option_map}
use Rattle.std.proofs.lemmas.Bool.{and_from, eq-eqb, leb-true, le-leb, ltb-true, ltb-false, cases_eq, cases_lt, not_from_false}
use Rattle.std.proofs.lemmas.List.{length-take-le}
use Rattle.std.proofs.lemmas.Slice.Eq.{bytes_eq-Decides}
use Rattle.ring_model.specs.Messages.{Ring, Letter, Packet, Message, Reply, Heart, Mark, Party, Member, Client, members, FewFaulty}
use Rattle.ring_model.specs.History.{said_by, first_word, is_name, voters, passing}
use Rattle.ring_model.specs.Member.{executed, first_of, executed_to, orders, answers, hearts}
use Rattle.ring_model.specs.Belief.{believed, replied, beating, beats_for, greater, newest, named, heart_of}
use Rattle.ring_model.specs.World.{World, world, correct, chosen}
use Rattle.ring_model.specs.Laws.{IsPrefix, Owes, Right, IsSound, IsCorrect, AllAnswered, VersionsRise, last_made, AllTold}
use Rattle.ring_model.proofs.History.{same_some, said_holds, passing_parts, passing_from, is_name_true, count_grows, enough_grows, first_of_parts, first_of_from}
use Rattle.ring_model.proofs.Stays.{at_stays}
use Rattle.ring_model.proofs.Agreement.{said_by_parts, longest_long, prefix_same}
use Rattle.ring_model.proofs.Chosen.{all_correct, at_correct, longest_of}
use Rattle.ring_model.proofs.Believed.{believed_right, beating_is, replied_is, client_is}
use Rattle.ring_model.proofs.Lists.{there_none, there_later, there_cases, there_map, there_range, at_there, at_in, at_short, at_some, all_zero}
use Rattle.ring_model.proofs.Ordered.{orders_once}
use Rattle.ring_model.proofs.Full.{enough_votes, at_own, IsSettled, settled}

-- ---- from votes to belief

-- a letter that does not say the name makes no vote for it
no_vote : (g : Ring) (say : Message → Option (List ℕ)) (d : List ℕ) (l : Letter) (older : List Letter) → is_name d (say l.message) ≡ false → voters g say d (l ∷ older) ≤ voters g say d older
no_vote g say d l older other =
    count_grows (λ j. is_name d (first_word (Member j) say (l ∷ older))) (λ j. is_name d (first_word (Member j) say older)) (members g)
    (λ j. silent (first_word (Member j) say older) (said_by (Member j) say l) (λ e.
    let says = (said_by_parts (Member j) say l d (is_name_true d (said_by (Member j) say l) e)).1 in
    cc (other, ap (is_name d) says, (bytes_eq-Decides d d).1 refl)))
  where
    silent : (o u : Option (List ℕ)) → (is_name d u ≡ true → ⊥) → is_name d (option_or o u) ≡ true → is_name d o ≡ true
    silent None u f e = absurd (f e)
    silent (Some x) u f e = e

-- what f+1 members say first lets something be believed
believed_some : (g : Ring) (say : Message → Option (List ℕ)) (d : List ℕ) (got : List Letter) → nat_le (g.f + 1) (voters g say d got) ≡ true → (v : List ℕ) × (believed g say got ≡ Some v)
believed_some g say d [] e = absurd (omega (arith, leb-true (g.f + 1) (voters g say d []) e, all_zero (members g)))
believed_some g say d (l ∷ older) e =
    elim (believed g say older) as (λ (o : Option (List ℕ)). believed g say older ≡ o → (v : List ℕ) × (option_or o (passing (λ v. nat_le (g.f + 1) (voters g say v (l ∷ older))) (say l.message)) ≡ Some v)) [
      | Some z ↦ λ _. (z, refl)
      | None ↦ λ none. fresh (λ h. believed_some g say d older h) none (is_name d (say l.message)) refl
    ] refl
  where
    fresh : (nat_le (g.f + 1) (voters g say d older) ≡ true → (v : List ℕ) × (believed g say older ≡ Some v)) → believed g say older ≡ None
        → (b : Bool) → is_name d (say l.message) ≡ b → (v : List ℕ) × (passing (λ v. nat_le (g.f + 1) (voters g say v (l ∷ older))) (say l.message) ≡ Some v)
    fresh before none true same = (d, passing_from (λ v. nat_le (g.f + 1) (voters g say v (l ∷ older))) (say l.message) d (is_name_true d (say l.message) same) e)
    fresh before none false other =
        let r = before (enough_grows (g.f + 1) (voters g say d (l ∷ older)) (voters g say d older) (no_vote g say d l older other) e) in
        absurd (cc (none, r.1))

-- what every correct member said, and no correct member says otherwise, is believed
told_value : (g : Ring) → FewFaulty g → (w : World) → IsSound g w → (c : Party) (say : Message → Option (List ℕ)) (m : Message) (d : List ℕ) → say m ≡ Some d
    → ((i : ℕ) → IsCorrect g i → Contains (w.got c) (record { from = Member i; message = m }))
    → ((i : ℕ) → IsCorrect g i → (x : Message) (z : List ℕ) → say x ≡ Some z → Owes g i (w.got (Member i)) c x → z ≡ d)
    → believed g say (w.got c) ≡ Some d
told_value g few w sound c say m d says came same =
    let votes = enough_votes g few (w.got c) say m d says came
    (λ i ok z e. said_holds (said_by (Member i) say) (λ l. Right g w l.from c l.message) (λ y. y ≡ z → z ≡ d)
    (λ l y right speaks eq.
    let parts = said_by_parts (Member i) say l y speaks in
    same i ok l.message z (parts.1 ∙ ap Some eq) (subst (λ p. Right g w p c l.message) parts.0 right ok.1))
    (w.got c) z (sound.got c) e refl) in
    let some = believed_some g say d (w.got c) (le-leb (g.f + 1) (voters g say d (w.got c)) (omega (arith, leb-true (2 * g.f + 1) (voters g say d (w.got c)) votes))) in
    let who = believed_right g few w c say some.0 (w.got c) (sound.got c) some.1 in
    some.1 ∙ ap Some (same who.0 who.2 who.1 some.0 who.3 who.4)

-- ---- the first of a list

take_keeps : {Y : Type 0} (n k : ℕ) (ys : List Y) (y : Y) → k < n → slice_get ys k ≡ Some y → slice_get (take n ys) k ≡ Some y
take_keeps n k [] y h e = absurd (cc e)
take_keeps zero k (x ∷ ys) y h e = absurd (omega arith)
take_keeps (suc n) zero (x ∷ ys) y h e = e
take_keeps (suc n) (suc k) (x ∷ ys) y h e = take_keeps n k ys y (omega arith) e

-- the last of the first s stands at place s
last_place : {Y : Type 0} (s : ℕ) (ys : List Y) (y : Y) → 1 ≤ s → s ≤ length ys → slice_get (take s ys) (length (take s ys) - 1) ≡ Some y → slice_get ys (s - 1) ≡ Some y
last_place s ys y low high e =
    subst (λ zs. slice_get zs (s - 1) ≡ Some y) (take-append-drop s ys)
    (at_stays (take s ys) (drop s ys) (s - 1) y (ap (λ n. slice_get (take s ys) (n - 1)) (sym (length-take-le s ys high)) ∙ e))

last_taken : {Y : Type 0} (k : ℕ) (ys : List Y) (y : Y) → slice_get ys k ≡ Some y → slice_get (take (suc k) ys) (length (take (suc k) ys) - 1) ≡ Some y
last_taken k ys y e =
    let long : length (take (suc k) ys) ≡ suc k = length-take-le (suc k) ys (omega (arith, at_short ys k y e)) in
    ap (slice_get (take (suc k) ys)) (omega (arith, long)) ∙ take_keeps (suc k) k ys y (omega arith) e

-- ---- what was sent of an executed slot

reply_there : (g : Ring) (i : ℕ) (xs : List (List ℕ)) (r : List ℕ) → slice_get xs (length xs - 1) ≡ Some r
    → Contains (answers g i xs) (record { from = Member i; to = Client (g.owner r); message = Reply (g.number r) (g.outcome xs) })
reply_there g i xs r e = rw e (0, omega arith, refl)

heart_there : (g : Ring) (i : ℕ) (xs : List (List ℕ)) (r : List ℕ) (m : Mark) (c : ℕ) → slice_get xs (length xs - 1) ≡ Some r → g.heart xs ≡ Some m → c < g.clients
    → Contains (answers g i xs) (record { from = Member i; to = Client c; message = Heart m.object m.version m.name })
heart_there g i xs r m c e h low =
    let x : Packet = record { from = Member i; to = Client c; message = Heart m.object m.version m.name } in
    rw e (there_later (record { from = Member i; to = Client (g.owner r); message = Reply (g.number r) (g.outcome xs) }) (hearts g i (g.heart xs)) x
    (subst (λ o. Contains (hearts g i o) x) (sym h) (there_map (λ c. record { from = Member i; to = Client c; message = Heart m.object m.version m.name }) (range_with_len 0 g.clients) c (there_range g.clients 0 c (omega arith) (omega (arith, low))))))

-- ---- where all was delivered

-- the committed list is the orders
pub chosen_is : (g : Ring) (w : World) → g.is_faulty 0 ≡ false → IsSettled g w → chosen g w ≡ orders g (w.got (Member 0))
chosen_is g w lead st = pick (longest_of (IsCorrect g) ran (correct g) (all_correct g))
  where
    ran : ℕ → List (List ℕ)
    ran i = executed g (w.got (Member i))

    short : length (orders g (w.got (Member 0))) ≤ length (chosen g w)
    short =
        let h = at_correct (λ xs. length xs ≤ length (chosen g w)) (λ i. executed g (w.got (Member i))) (λ k. not (g.is_faulty k)) (3 * g.f + 1) 0 0 (longest_long (map (λ i. executed g (w.got (Member i))) (correct g))) (omega arith) (omega arith) (not_from_false (g.is_faulty 0) lead) in
        omega (arith, h, ap length (st.ran 0 (omega arith, lead)))

    pick : (chosen g w ≡ []) ⊎ ((k : ℕ) × IsCorrect g k × (chosen g w ≡ executed g (w.got (Member k)))) → chosen g w ≡ orders g (w.got (Member 0))
    pick (inl e) = e ∙ prefix_same [] (orders g (w.got (Member 0))) (orders g (w.got (Member 0)), refl) (omega (arith, short, ap length e))
    pick (inr r) = r.2 ∙ st.ran r.0 r.1

-- what a correct member owes for an executed slot came to the client
answer_came : (g : Ring) (w : World) → IsSettled g w → (s : ℕ) → 1 ≤ s → s ≤ length (orders g (w.got (Member 0))) → (i : ℕ) → IsCorrect g i → (c : ℕ) (m : Message)
    → Contains (answers g i (take s (orders g (w.got (Member 0))))) (record { from = Member i; to = Client c; message = m }) → Contains (w.got (Client c)) (record { from = Member i; message = m })
answer_came g w st s low high i ok c m there =
    let x : Packet = record { from = Member i; to = Client c; message = m } in
    let here = ap (first_of s) (st.ran i ok) ∙ first_of_from s (orders g (w.got (Member 0))) low high in
    st.came x (st.full.answered i ok.1 s (take s (orders g (w.got (Member 0)))) low (omega (arith, high, st.short)) here x there) ok.1 tt

-- what a correct member has executed is the first of the orders
executed_first : (g : Ring) (w : World) → IsSettled g w → (i : ℕ) → IsCorrect g i → (s : ℕ) (xs : List (List ℕ)) → executed_to g (w.got (Member i)) s ≡ Some xs
    → (1 ≤ s) × (s ≤ length (orders g (w.got (Member 0)))) × (take s (orders g (w.got (Member 0))) ≡ xs)
executed_first g w st i ok s xs e = first_of_parts s (orders g (w.got (Member 0))) xs (sym (ap (first_of s) (st.ran i ok)) ∙ e)

pub all_answered : AllAnswered
all_answered g few lead events legal delivered r c =
    let w = world g events in
    let st = settled g few lead events legal delivered in
    let L = orders g (w.got (Member 0)) in
    let k = at_there L r (st.ordered r c) in
    let last = last_taken k.0 L r k.1 in (
      take (suc k.0) L,
      subst (IsPrefix (take (suc k.0) L)) (sym (chosen_is g w lead st)) (drop (suc k.0) L, take-append-drop (suc k.0) L),
      last,
      told_value g few w st.sound (Client (g.owner r)) (replied (g.number r)) (Reply (g.number r) (g.outcome (take (suc k.0) L))) (g.outcome (take (suc k.0) L)) (at_own (g.number r) (g.outcome (take (suc k.0) L)))
          (λ i ok. answer_came g w st (suc k.0) (omega arith) (omega (arith, at_short L k.0 r k.1)) i ok (g.owner r) (Reply (g.number r) (g.outcome (take (suc k.0) L))) (reply_there g i (take (suc k.0) L) r last))
          (λ i ok x z says owes.
          let owed = subst (Owes g i (w.got (Member i)) (Client (g.owner r))) (replied_is (g.number r) x z says) owes in
          let p = executed_first g w st i ok owed.0 owed.1 owed.3 in
          let place = last_place owed.0 L owed.2 p.0 p.1 (subst (λ zs. slice_get zs (length zs - 1) ≡ Some owed.2) (sym p.2) owed.4) in
          let same = st.nums.unique owed.2 r (st.real owed.2 (at_in L (owed.0 - 1) owed.2 place)) c (client_is (g.owner r) (g.owner owed.2) owed.5) owed.6 in
          let once = orders_once g (w.got (Member 0)) (owed.0 - 1) k.0 r (place ∙ ap Some same) k.1 in
          let at : owed.0 ≡ suc k.0 = omega (arith, once, p.0) in
          sym owed.7 ∙ ap g.outcome (sym p.2 ∙ ap (λ n. take n L) at)),
    )

-- ---- the last version

-- two versions of one object and number on one list are one
same_version : (g : Ring) (ys : List (List ℕ)) → VersionsRise g ys → (a b : ℕ) (m n : Mark) → a ≤ length ys → b ≤ length ys
    → g.heart (take a ys) ≡ Some m → g.heart (take b ys) ≡ Some n → m.object ≡ n.object → m.version ≡ n.version → m ≡ n
same_version g ys rise a b m n la lb ha hb o v =
    ⊎_elim
    (λ less. absurd (omega (arith, v, rise a b m n less lb ha hb o)))
    (λ above. ⊎_elim
    (λ less. absurd (omega (arith, v, rise b a n m less la hb ha (sym o))))
    (λ below. same_some m n (sym ha ∙ ap (λ k. g.heart (take k ys)) (omega arith) ∙ hb))
    (cases_lt b a))
    (cases_lt a b)

-- none of the requests after the first a, up to the first n, makes a version of the object
abbrev NoneMade : Ring → List ℕ → List (List ℕ) → ℕ → ℕ → Type 0
NoneMade g o xs a n = (t : ℕ) → a < t → t ≤ n → (k : Mark) → g.heart (take t xs) ≡ Some k → k.object ≡ o → ⊥

none_more : (g : Ring) (o : List ℕ) (xs : List (List ℕ)) (a n : ℕ) → passing (λ m. bytes_eq m.object o) (g.heart (take (suc n) xs)) ≡ None → NoneMade g o xs a n → NoneMade g o xs a (suc n)
none_more g o xs a n none before t low high k e same =
    ⊎_elim
    (λ here. let now = passing_from (λ m. bytes_eq m.object o) (g.heart (take (suc n) xs)) k (ap (λ i. g.heart (take i xs)) (sym here) ∙ e) ((bytes_eq-Decides k.object o).1 same) in cc (none, now))
    (λ apart. before t low (omega arith) k e same)
    (cases_eq t (suc n))

last_none : (g : Ring) (o : List ℕ) (xs : List (List ℕ)) (n : ℕ) → last_made g o xs n ≡ None → NoneMade g o xs 0 n
last_none g o xs zero e = λ t low high k h same. omega arith
last_none g o xs (suc n) e =
    elim (passing (λ m. bytes_eq m.object o) (g.heart (take (suc n) xs))) as (λ (q : Option Mark). passing (λ m. bytes_eq m.object o) (g.heart (take (suc n) xs)) ≡ q → option_or q (last_made g o xs n) ≡ None → NoneMade g o xs 0 (suc n)) [
      | Some k ↦ λ _ now. absurd (cc now)
      | None ↦ λ none now. none_more g o xs 0 n none (last_none g o xs n now)
    ] refl e

last_parts : (g : Ring) (o : List ℕ) (xs : List (List ℕ)) (n : ℕ) (m : Mark) → last_made g o xs n ≡ Some m
    → (s : ℕ) × (1 ≤ s) × (s ≤ n) × (g.heart (take s xs) ≡ Some m) × (m.object ≡ o) × NoneMade g o xs s n
last_parts g o xs zero m e = absurd (cc e)
last_parts g o xs (suc n) m e =
    elim (passing (λ m. bytes_eq m.object o) (g.heart (take (suc n) xs))) as (λ (q : Option Mark). passing (λ m. bytes_eq m.object o) (g.heart (take (suc n) xs)) ≡ q → option_or q (last_made g o xs n) ≡ Some m
    → (s : ℕ) × (1 ≤ s) × (s ≤ suc n) × (g.heart (take s xs) ≡ Some m) × (m.object ≡ o) × NoneMade g o xs s (suc n)) [
      | Some k ↦ λ here now.
          let parts = passing_parts (λ m. bytes_eq m.object o) (g.heart (take (suc n) xs)) m (here ∙ now) in
          (suc n, omega arith, omega arith, parts.0, (bytes_eq-Decides m.object o).0 parts.1, λ t low high k e same. omega arith)
      | None ↦ λ none now.
          let r = last_parts g o xs n m now in
          (r.0, r.1, omega (arith, r.2), r.3, r.4, none_more g o xs r.0 n none r.5)
    ] refl e

-- ---- the greatest version that is believed

greater_one : (a b : Option ℕ) (u : ℕ) → greater a b ≡ Some u → (a ≡ Some u) ⊎ (b ≡ Some u)
greater_one None b u e = inr e
greater_one (Some v) None u e = inl e
greater_one (Some v) (Some w) u e =
    elim (nat_lt v w) as (λ t. cond t (Some w) (Some v) ≡ Some u → (Some v ≡ Some u) ⊎ (Some w ≡ Some u)) [
      | true ↦ λ h. inr h
      | false ↦ λ h. inl h
    ] e

greater_both : (a b : Option ℕ) (v : ℕ) → (a ≡ Some v) ⊎ (b ≡ Some v) → (u : ℕ) × (greater a b ≡ Some u) × (v ≤ u)
greater_both None b v (inl e) = absurd (cc e)
greater_both None b v (inr e) = (v, e, omega arith)
greater_both (Some x) None v (inl e) = (v, e, omega arith)
greater_both (Some x) None v (inr e) = absurd (cc e)
greater_both (Some x) (Some y) v h =
    elim (nat_lt x y) as (λ t. nat_lt x y ≡ t → (u : ℕ) × (cond t (Some y) (Some x) ≡ Some u) × (v ≤ u)) [
      | true ↦ λ less. let l = ltb-true x y less in (y, refl, ⊎_elim (λ e. omega (arith, l, same_some x v e)) (λ e. omega (arith, same_some y v e)) h)
      | false ↦ λ more. let l = ltb-false x y more in (x, refl, ⊎_elim (λ e. omega (arith, same_some x v e)) (λ e. omega (arith, l, same_some y v e)) h)
    ] refl

abbrev beats : Ring → List ℕ → List Letter → Letter → Option ℕ
beats g o all l = passing (λ v. is_some (believed g (beating o v) all)) (beats_for o l.message)

newest_from : (g : Ring) (o : List ℕ) (all ls : List Letter) (u : ℕ) → newest g o all ls ≡ Some u → is_some (believed g (beating o u) all) ≡ true
newest_from g o all [] u e = absurd (cc e)
newest_from g o all (l ∷ ls) u e =
    ⊎_elim (λ h. newest_from g o all ls u h) (λ h. (passing_parts (λ v. is_some (believed g (beating o v) all)) (beats_for o l.message) u h).1) (greater_one (newest g o all ls) (beats g o all l) u e)

newest_least : (g : Ring) (o : List ℕ) (all ls : List Letter) (l : Letter) (v : ℕ) → Contains ls l → beats g o all l ≡ Some v → (u : ℕ) × (newest g o all ls ≡ Some u) × (v ≤ u)
newest_least g o all [] l v c e = absurd (there_none l c)
newest_least g o all (x ∷ ls) l v c e =
    ⊎_elim
    (λ same. greater_both (newest g o all ls) (beats g o all x) v (inr (ap (beats g o all) same ∙ e)))
    (λ d.
    let r = newest_least g o all ls l v d e in
    let s = greater_both (newest g o all ls) (beats g o all x) r.0 (inl r.1) in
    (s.0, s.1, omega (arith, s.2, r.2)))
    (there_cases x ls l c)

is_there : {Y : Type 0} (o : Option Y) → is_some o ≡ true → (y : Y) × (o ≡ Some y)
is_there None e = absurd (cc e)
is_there (Some y) e = (y, refl)

-- ---- hearts

-- a heart that is believed was made by the orders
heart_made : (g : Ring) → FewFaulty g → (w : World) → IsSettled g w → (c : Party) (o : List ℕ) (v : ℕ) (n : List ℕ) → believed g (beating o v) (w.got c) ≡ Some n
    → (s : ℕ) × (1 ≤ s) × (s ≤ length (orders g (w.got (Member 0)))) × (g.heart (take s (orders g (w.got (Member 0)))) ≡ Some (record { object = o; version = v; name = n }))
heart_made g few w st c o v n e =
    let who = believed_right g few w c (beating o v) n (w.got c) (st.sound.got c) e in
    let owed = subst (Owes g who.0 (w.got (Member who.0)) c) (beating_is o v who.1 n who.3) who.4 in
    let p = executed_first g w st who.0 who.2 owed.0 owed.1 owed.2 in
    (owed.0, p.0, p.1, ap g.heart p.2 ∙ owed.3)

-- the heart of a version that the orders make came from each correct member
heart_came : (g : Ring) (w : World) → IsSettled g w → (c : ℕ) → c < g.clients → (s : ℕ) (m : Mark) → 1 ≤ s → s ≤ length (orders g (w.got (Member 0)))
    → g.heart (take s (orders g (w.got (Member 0)))) ≡ Some m → (i : ℕ) → IsCorrect g i → Contains (w.got (Client c)) (record { from = Member i; message = Heart m.object m.version m.name })
heart_came g w st c known s m low high made i ok =
    let xs = take s (orders g (w.got (Member 0))) in
    let r = at_some xs (length xs - 1) (omega (arith, low, length-take-le s (orders g (w.got (Member 0))) high)) in
    answer_came g w st s low high i ok c (Heart m.object m.version m.name) (heart_there g i xs r.0 m c r.1 made known)

-- and is believed
heart_believed : (g : Ring) → FewFaulty g → (w : World) → VersionsRise g (orders g (w.got (Member 0))) → IsSettled g w → (c : ℕ) → c < g.clients → (s : ℕ) (m : Mark) → 1 ≤ s → s ≤ length (orders g (w.got (Member 0)))
    → g.heart (take s (orders g (w.got (Member 0)))) ≡ Some m → believed g (beating m.object m.version) (w.got (Client c)) ≡ Some m.name
heart_believed g few w rise st c known s m low high made =
    told_value g few w st.sound (Client c) (beating m.object m.version) (Heart m.object m.version m.name) m.name
    (ap (λ b. cond b (Some m.name) None) (and_from (bytes_eq m.object m.object) (m.version == m.version) ((bytes_eq-Decides m.object m.object).1 refl) (eq-eqb m.version m.version refl)))
    (heart_came g w st c known s m low high made)
    (λ i ok x z says owes.
    let owed = subst (Owes g i (w.got (Member i)) (Client c)) (beating_is m.object m.version x z says) owes in
    let p = executed_first g w st i ok owed.0 owed.1 owed.2 in
    let n : Mark = record { object = m.object; version = m.version; name = z } in
    ap (λ (k : Mark). k.name) (same_version g (orders g (w.got (Member 0))) rise owed.0 s n m p.1 high (ap g.heart p.2 ∙ owed.3) made refl refl))

pub all_told : AllTold
all_told g few lead events legal delivered rises c known o =
    elim (last_made g o (orders g ((world g events).got (Member 0))) (length (orders g ((world g events).got (Member 0)))))
    as (λ q. last_made g o (orders g ((world g events).got (Member 0))) (length (orders g ((world g events).got (Member 0)))) ≡ q → heart_of g o ((world g events).got (Client c)) ≡ q) [
      | None ↦ λ e. nothing e (newest g o got got) refl
      | Some m ↦ λ e. something m e
    ] refl
    ∙ ap (λ xs. last_made g o xs (length xs)) (sym (chosen_is g (world g events) lead st))
  where
    st : IsSettled g (world g events)
    st = settled g few lead events legal delivered

    rise : VersionsRise g (orders g ((world g events).got (Member 0)))
    rise = subst (VersionsRise g) (chosen_is g (world g events) lead st) rises

    got : List Letter
    got = (world g events).got (Client c)

    nothing : last_made g o (orders g ((world g events).got (Member 0))) (length (orders g ((world g events).got (Member 0)))) ≡ None
        → (u : Option ℕ) → newest g o ((world g events).got (Client c)) ((world g events).got (Client c)) ≡ u → named g o ((world g events).got (Client c)) u ≡ None
    nothing e None _ = refl
    nothing e (Some u) is =
        let n = is_there (believed g (beating o u) got) (newest_from g o got got u is) in
        let made = heart_made g few (world g events) st (Client c) o u n.0 n.1 in
        absurd (last_none g o (orders g ((world g events).got (Member 0))) (length (orders g ((world g events).got (Member 0)))) e made.0 (omega (arith, made.1)) made.2 (record { object = o; version = u; name = n.0 }) made.3 refl)

    something : (m : Mark) → last_made g o (orders g ((world g events).got (Member 0))) (length (orders g ((world g events).got (Member 0)))) ≡ Some m → heart_of g o ((world g events).got (Client c)) ≡ Some m
    something m e =
        let w = world g events in
        let L = orders g (w.got (Member 0)) in
        let p = last_parts g o L (length L) m e in
        let bel = subst (λ x. believed g (beating x m.version) got ≡ Some m.name) p.4 (heart_believed g few w rise st c known p.0 m p.1 p.2 p.3) in
        let came = heart_came g w st c known p.0 m p.1 p.2 p.3 0 (omega arith, lead) in
        let least = newest_least g o got got (record { from = Member 0; message = Heart m.object m.version m.name }) m.version came
        (passing_from (λ v. is_some (believed g (beating o v) got)) (cond (bytes_eq m.object o) (Some m.version) None) m.version
        (ap (λ b. cond b (Some m.version) None) ((bytes_eq-Decides m.object o).1 p.4)) (ap is_some bel)) in
        let n = is_there (believed g (beating o least.0) got) (newest_from g o got got least.0 least.1) in
        let made = heart_made g few w st (Client c) o least.0 n.0 n.1 in
        let k : Mark = record { object = o; version = least.0; name = n.0 } in
        let most : least.0 ≤ m.version
        = ⊎_elim
        (λ later. absurd (p.5 made.0 later made.2 k made.3 refl))
        (λ within. ⊎_elim
        (λ before. omega (arith, rise made.0 p.0 k m before p.2 made.3 p.3 (sym p.4)))
        (λ after. omega (arith, ap (λ (x : Mark). x.version) (same_some k m (sym made.3 ∙ ap (λ i. g.heart (take i L)) (omega arith) ∙ p.3))))
        (cases_lt made.0 p.0))
        (cases_lt p.0 made.0) in
        ap (named g o got) (least.1 ∙ ap Some (omega (arith, most, least.2)))
        ∙ ap (option_map (λ n. record { object = o; version = m.version; name = n })) bel
        ∙ ap (λ x. Some (record { object = x; version = m.version; name = m.name })) (sym p.4)

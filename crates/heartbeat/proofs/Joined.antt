-- What is believed of letters beside what is believed of the votes in them.
use Rattle.std.proofs.Common.{◌≡◌, ℕ, zero, suc, ◌+◌, ◌*◌, ◌<◌, ◌≤◌, Bool, true, false, cond, ◌==◌, ◌&&◌, ◌||◌, nat_le, nat_lt, List, [], ◌∷◌, Option, Some, None, is_some, count_by, ◌⊎◌, inl, inr, refl, sym, ap, subst, ◌∙◌, arith, bytes_eq}
use Rattle.std.specs.Option.{option_or, option_map}
use Rattle.std.specs.List.{range_with_len, cons_option, AllByRecursion as Each}
use Rattle.std.proofs.lemmas.Bool.{ne_eqb}
use Rattle.std.proofs.lemmas.Bool.Decides.{nat_tests}
use Rattle.std.proofs.lemmas.List.Sums.{sum_by-cons}
use Rattle.std.proofs.lemmas.Slice.Eq.{bytes_eq-Decides}
use Rattle.ring_model.specs.Messages.{Party, Member, Client, Message, Heart, Sealed, Letter, Mark, Ring, same_party}
use Rattle.ring_model.specs.History.{first_word, said_by, is_name, voters, passing}
use Rattle.ring_model.specs.Belief.{believed, beating, sealing, beats_for, greater, newest, named}
use Rattle.ring_model.specs.World.{IsParty}
use Rattle.ring_model.proofs.History.{count_grows}
use Rattle.quorum.specs.Tallies.{senders, count}
use Rattle.quorum.specs.Tallies as tallies
use Rattle.pond_base.specs.declared.numbers.Version.{Version}
use Rattle.heartbeat.specs.Votes.{Vote, value_for, first_of, believed_of, newest_of}
use Rattle.heartbeat.specs.Joins.{heart_told, seal_told, vote_from, votes_in, marked, HeartsJoin, SealsJoin, NewestJoins}
use Rattle.heartbeat.proofs.Standing.{cond_none, or_none}
use Rattle.heartbeat.proofs.Latest.{IsTop, smaller, one_top, newest_top}

-- ---- counts

-- a member that is none of the ring's has said nothing
silent : {Y : Type 0} (g : Ring) (say : Message → Option Y) (j : ℕ) → 3 * g.f + 1 ≤ j → (got : List Letter) → Each (λ l. IsParty g l.from) got → first_word (Member j) say got ≡ None
silent g say j high [] h = refl
silent g say j high (l ∷ got) h =
    ap (λ b. option_or (first_word (Member j) say got) (cond b (say l.message) None)) (other l.from h.0) ∙ or_none (first_word (Member j) say got) ∙ silent g say j high got h.1
  where
    other : (p : Party) → IsParty g p → same_party p (Member j) ≡ false
    other (Member i) low = ne_eqb i j (λ e. omega arith)
    other (Client c) low = refl

count_range : (t : ℕ → Bool) (n m a : ℕ) → n ≤ m → ((j : ℕ) → a + n ≤ j → t j ≡ false) → count_by t (range_with_len a m) ≡ count_by t (range_with_len a n)
count_range t zero zero a h f = refl
count_range t (suc n) zero a h f = absurd (omega arith)
count_range t zero (suc m) a h f =
    let no : cond (t a) 1 0 ≡ 0 = ap {B = ℕ} (λ b. cond b 1 0) (f a (omega arith)) in
    omega (arith, sum_by-cons (λ j. cond (t j) 1 0) a (range_with_len (a + 1) m), no, count_range t zero m (a + 1) (omega arith) (λ j k. f j (omega arith)))
count_range t (suc n) (suc m) a h f =
    omega (arith, sum_by-cons (λ j. cond (t j) 1 0) a (range_with_len (a + 1) m), sum_by-cons (λ j. cond (t j) 1 0) a (range_with_len (a + 1) n), count_range t n m (a + 1) (omega arith) (λ j k. f j (omega arith)))

same_name : (d : List ℕ) (o : Option (List ℕ)) → tallies.is_name d o ≡ is_name d o
same_name d None = refl
same_name d (Some e) = refl

-- ---- what is not believed has too few supporters

count_none : (d : List ℕ) → count (λ j. None) d ≡ 0
unfolding senders
count_none d = refl

name_true : (d : List ℕ) (o : Option (List ℕ)) → tallies.is_name d o ≡ true → o ≡ Some d
name_true d None e = absurd (cc e)
name_true d (Some y) e = ap Some ((bytes_eq-Decides y d).0 e)

-- a vote for another value brings none to this one
no_more_for : (o : List ℕ) (v : ℕ) (d : List ℕ) (x : Vote) (older : List Vote) → (tallies.is_name d (value_for o v x) ≡ true → ⊥)
    → count (λ j. first_of o v j (x ∷ older)) d ≤ count (λ j. first_of o v j older) d
no_more_for o v d x older other =
    count_grows (λ j. tallies.is_name d (first_of o v j (x ∷ older))) (λ j. tallies.is_name d (first_of o v j older)) senders (λ j. each (first_of o v j older) (x.member == j))
  where
    each : (before : Option (List ℕ)) (b : Bool) → tallies.is_name d (option_or before (cond b (value_for o v x) None)) ≡ true → tallies.is_name d before ≡ true
    each (Some y) b e = e
    each None true e = absurd (other e)
    each None false e = e

too_few : (need : ℕ) → 1 ≤ need → (o : List ℕ) (v : ℕ) (d : List ℕ) (votes : List Vote) → believed_of need o v votes ≡ None → nat_le need (count (λ j. first_of o v j votes) d) ≡ false
too_few need one o v d [] e = grind (arith, nat_tests, one, count_none d)
too_few need one o v d (x ∷ older) e = each (believed_of need o v older) (value_for o v x) refl refl e (too_few need one o v d older)
  where
    now : ℕ
    now = count (λ j. first_of o v j (x ∷ older)) d

    fewer : now ≤ count (λ j. first_of o v j older) d → nat_le need (count (λ j. first_of o v j older) d) ≡ false → nat_le need now ≡ false
    fewer less t = grind (arith, nat_tests, less, t)

    by_name : (y : List ℕ) (b : Bool) → bytes_eq y d ≡ b → value_for o v x ≡ Some y → cond (nat_le need (count (λ j. first_of o v j (x ∷ older)) y)) (Some y) None ≡ None
        → nat_le need (count (λ j. first_of o v j older) d) ≡ false → nat_le need now ≡ false
    by_name y true t is gone before = ap (λ z. nat_le need (count (λ j. first_of o v j (x ∷ older)) z)) (sym ((bytes_eq-Decides y d).0 t)) ∙ refused (nat_le need (count (λ j. first_of o v j (x ∷ older)) y)) gone
      where
        refused : (c : Bool) → ◌≡◌ {A = Option (List ℕ)} (cond c (Some y) None) None → c ≡ false
        refused true e = absurd (cc e)
        refused false e = refl
    by_name y false t is gone before = fewer (no_more_for o v d x older (λ e. absurd (cc (sym t ∙ sym (ap (tallies.is_name d) is) ∙ e)))) before

    each : (before now : Option (List ℕ)) → believed_of need o v older ≡ before → value_for o v x ≡ now → option_or before (passing (λ y. nat_le need (count (λ j. first_of o v j (x ∷ older)) y)) now) ≡ None
        → (believed_of need o v older ≡ None → nat_le need (count (λ j. first_of o v j older) d) ≡ false) → nat_le need (count (λ j. first_of o v j (x ∷ older)) d) ≡ false
    each (Some z) now is own gone rest = absurd (cc gone)
    each None None is own gone rest = fewer (no_more_for o v d x older (λ e. absurd (cc (sym (ap (tallies.is_name d) own) ∙ e)))) (rest is)
    each None (Some y) is own gone rest = by_name y (bytes_eq y d) refl own gone (rest is)

-- ---- what is believed

-- the name that a mark gives to a version of an object
abbrev named_by : List ℕ → ℕ → Option Mark → Option (List ℕ)
named_by o v None = None
named_by o v (Some m) = cond (bytes_eq m.object o && m.version == v) (Some m.name) None

stays : (before : Option (List ℕ)) (p : List ℕ → Bool) (x : Option (List ℕ)) → (before ≡ None → (d : List ℕ) → p d ≡ false) → option_or before (passing p x) ≡ before
stays (Some y) p x h = refl
stays None p None h = refl
stays None p (Some d) h = ap (λ b. cond b (Some d) None) (h refl d)

module _ (told : Message → Option Mark) where
  abbrev says : List ℕ → ℕ → Message → Option (List ℕ)
  says o v m = named_by o v (told m)

  -- a member's first word is its first vote
  first_is : (o : List ℕ) (v j : ℕ) (got : List Letter) → first_word (Member j) (says o v) got ≡ first_of o v j (votes_in told got)
  first_is o v j [] = refl
  first_is o v j (l ∷ older) = ap (λ x. option_or x (said_by (Member j) (says o v) l)) (first_is o v j older) ∙ one l.from (told l.message)
    where
      one : (p : Party) (m : Option Mark) → option_or (first_of o v j (votes_in told older)) (cond (same_party p (Member j)) (named_by o v m) None) ≡ first_of o v j (cons_option (vote_from p m) (votes_in told older))
      one (Member i) (Some m) = refl
      one (Member i) None = ap (option_or (first_of o v j (votes_in told older))) (sym (cond_none (i == j))) ∙ or_none (first_of o v j (votes_in told older))
      one (Client c) m = or_none (first_of o v j (votes_in told older))

  voters_are : (g : Ring) (o : List ℕ) (v : ℕ) (d : List ℕ) (got : List Letter) → g.f ≤ 3 → Each (λ l. IsParty g l.from) got → voters g (says o v) d got ≡ count (λ j. first_of o v j (votes_in told got)) d
  unfolding senders
  voters_are g o v d got few known =
      sym (count_range (λ j. is_name d (first_word (Member j) (says o v) got)) (3 * g.f + 1) 10 0 (omega arith) (λ j above. ap (is_name d) (silent g (says o v) j (omega arith) got known)))
      ∙ ap (λ (t : ℕ → Bool). count_by t (range_with_len 0 10)) (λ i j. (ap (is_name d) (first_is o v j got) ∙ sym (same_name d (first_of o v j (votes_in told got)))) i)

  believed_is : (g : Ring) (o : List ℕ) (v : ℕ) (got : List Letter) → g.f ≤ 3 → Each (λ l. IsParty g l.from) got → believed g (says o v) got ≡ believed_of (g.f + 1) o v (votes_in told got)
  believed_is g o v [] few known = refl
  believed_is g o v (l ∷ older) few known =
      ap (λ x. option_or x (passing (λ d. nat_le (g.f + 1) (voters g (says o v) d (l ∷ older))) (says o v l.message))) (believed_is g o v older few known.1)
      ∙ ap (λ (c : List ℕ → ℕ). option_or (believed_of (g.f + 1) o v (votes_in told older)) (passing (λ d. nat_le (g.f + 1) (c d)) (says o v l.message))) (λ i d. voters_are g o v d (l ∷ older) few known i)
      ∙ one l.from (told l.message)
    where
      one : (p : Party) (m : Option Mark)
          → option_or (believed_of (g.f + 1) o v (votes_in told older)) (passing (λ d. nat_le (g.f + 1) (count (λ j. first_of o v j (cons_option (vote_from p m) (votes_in told older))) d)) (named_by o v m))
          ≡ believed_of (g.f + 1) o v (cons_option (vote_from p m) (votes_in told older))
      one (Member i) (Some m) = refl
      one (Member i) None = or_none (believed_of (g.f + 1) o v (votes_in told older))
      one (Client c) m = stays (believed_of (g.f + 1) o v (votes_in told older)) _ (named_by o v m) (λ e d. too_few (g.f + 1) (omega arith) o v d (votes_in told older) e)

beats : (o : List ℕ) (v : ℕ) (m : Message) → beating o v m ≡ named_by o v (heart_told m)
beats o v (Heart p w n) = refl
beats o v _ = refl

seals : (o : List ℕ) (v : ℕ) (m : Message) → sealing o v m ≡ named_by o v (seal_told m)
seals o v (Sealed p w n) = refl
seals o v _ = refl

pub hearts_join : HeartsJoin
hearts_join g o v got few known = ap (λ (s : Message → Option (List ℕ)). believed g s got) (λ i m. beats o v m i) ∙ believed_is heart_told g o v got few known

pub seals_join : SealsJoin
seals_join g o v got few known = ap (λ (s : Message → Option (List ℕ)). believed g s got) (λ i m. seals o v m i) ∙ believed_is seal_told g o v got few known

-- ---- the newest

-- whether this version is there
abbrev is_for : ℕ → Option ℕ → Bool
is_for v None = false
is_for v (Some w) = w == v

module _ (values : ℕ → Option (List ℕ)) where
  -- the greatest of the numbers of a set that have a value
  abbrev IsGreatest : (ℕ → Bool) → Option ℕ → Type 0
  IsGreatest set None = (v : ℕ) → set v ≡ true → is_some (values v) ≡ false
  IsGreatest set (Some a) = (is_some (values a) ≡ true) × ((v : ℕ) → set v ≡ true → is_some (values v) ≡ true → v ≤ a)

  abbrev with_value : Option ℕ → Option (Version × List ℕ)
  with_value None = None
  with_value (Some v) = option_map (λ n. (record { 0 = v }, n)) (values v)

  top_with : (set : ℕ → Bool) (u : Option ℕ) → IsGreatest set u → IsTop values set (with_value u)
  top_with set None top = top
  top_with set (Some a) top = each (values a) refl top.0
    where
      each : (x : Option (List ℕ)) → values a ≡ x → is_some x ≡ true → IsTop values set (option_map (λ n. (record { 0 = a }, n)) x)
      each None e t = absurd (cc t)
      each (Some y) e t = (e, top.1)

  greater_step : (set : ℕ → Bool) (u w : Option ℕ) → IsGreatest set u → IsGreatest (λ v. is_for v w || set v) (greater u (passing (λ v. is_some (values v)) w))
  greater_step set None None top = top
  greater_step set (Some a) None top = top
  greater_step set u (Some w) top = each u (is_some (values w)) refl top
    where
      or_else : (P : Type 0) (v : ℕ) → (v ≡ w → P) → (set v ≡ true → P) → ((w == v) || set v) ≡ true → P
      or_else P v a b e = split (w == v) refl e
        where
          split : (c : Bool) → (w == v) ≡ c → (c || set v) ≡ true → P
          split true t e = a (grind (arith, nat_tests, t))
          split false t e = b e

      each : (u : Option ℕ) (s : Bool) → is_some (values w) ≡ s → IsGreatest set u → IsGreatest (λ v. (w == v) || set v) (greater u (cond s (Some w) None))
      each None false t top = λ v. or_else _ v (λ e. ap (λ m. is_some (values m)) e ∙ t) (top v)
      each (Some a) false t top = (top.0, λ v e s. or_else _ v (λ h. absurd (cc (sym s ∙ ap (λ m. is_some (values m)) h ∙ t))) (λ h. top.1 v h s) e)
      each None true t top = (t, λ v e s. or_else _ v (λ h. omega (arith, h)) (λ h. absurd (cc (sym s ∙ top v h))) e)
      each (Some a) true t top = pick (nat_lt a w) refl
        where
          pick : (b : Bool) → nat_lt a w ≡ b → IsGreatest (λ v. (w == v) || set v) (cond b (Some w) (Some a))
          pick true p =
              let low : a < w = grind (arith, nat_tests, p) in
              (t, λ v e s. or_else _ v (λ h. omega (arith, h)) (λ h. let under : v ≤ a = top.1 v h s in omega (arith, low, under)) e)
          pick false p =
              let low : w ≤ a = grind (arith, nat_tests, p) in
              (top.0, λ v e s. or_else _ v (λ h. omega (arith, low, h)) (λ h. top.1 v h s) e)

-- whether a letter tells of a version of an object
abbrev told_of : List ℕ → List Letter → ℕ → Bool
told_of o [] v = false
told_of o (l ∷ ls) v = is_for v (beats_for o l.message) || told_of o ls v

module _ (g : Ring) (o : List ℕ) where
  greatest : (all ls : List Letter) → IsGreatest (λ v. believed g (beating o v) all) (told_of o ls) (newest g o all ls)
  greatest all [] = λ v e. absurd (cc e)
  greatest all (l ∷ ls) = greater_step (λ v. believed g (beating o v) all) (told_of o ls) (newest g o all ls) (beats_for o l.message) (greatest all ls)

  beats_or : (v : ℕ) (m : Message) → (beating o v m ≡ None) ⊎ (is_for v (beats_for o m) ≡ true)
  beats_or v (Heart p w n) = each (bytes_eq p o) (w == v) refl
    where
      each : (a b : Bool) → (w == v) ≡ b → (◌≡◌ {A = Option (List ℕ)} (cond (a && b) (Some n) None) None) ⊎ (is_for v (cond a (Some w) None) ≡ true)
      each true true e = inr e
      each true false e = inl refl
      each false b e = inl refl
  beats_or v _ = inl refl

  believed_told : (v : ℕ) (ls : List Letter) → is_some (believed g (beating o v) ls) ≡ true → told_of o ls v ≡ true
  believed_told v [] e = absurd (cc e)
  believed_told v (l ∷ older) e = elim (beats_or v l.message) [
    | inl none ↦ right (is_for v (beats_for o l.message)) (believed_told v older (before (believed g (beating o v) older) (sym (ap (λ x. is_some (option_or (believed g (beating o v) older) (passing (λ d. nat_le (g.f + 1) (voters g (beating o v) d (l ∷ older))) x))) none) ∙ e)))
    | inr there ↦ ap (λ b. b || told_of o older v) there
  ] where
    before : (x : Option (List ℕ)) → is_some (option_or x None) ≡ true → is_some x ≡ true
    before None e = e
    before (Some x) e = refl

    right : (a : Bool) → told_of o older v ≡ true → (a || told_of o older v) ≡ true
    right true t = refl
    right false t = t

  marks : (got : List Letter) (u : Option ℕ) → named g o got u ≡ marked o (with_value (λ v. believed g (beating o v) got) u)
  marks got None = refl
  marks got (Some v) = each (believed g (beating o v) got)
    where
      each : (x : Option (List ℕ)) → ◌≡◌ {A = Option Mark} (option_map (λ n. record { object = o; version = v; name = n }) x) (marked o (option_map (λ n. (record { 0 = v }, n)) x))
      each None = refl
      each (Some y) = refl

pub newest_joins : NewestJoins
newest_joins g o got few known =
    marks g o got (newest g o got got)
    ∙ ap (marked o) (one_top (λ v. believed_of (g.f + 1) o v (votes_in heart_told got)) (with_value (λ v. believed g (beating o v) got) (newest g o got got)) (newest_of (g.f + 1) o (votes_in heart_told got))
    (subst (λ f. IsTop f (λ v. is_some (f v)) (with_value (λ v. believed g (beating o v) got) (newest g o got got))) (λ i v. hearts_join g o v got few known i)
    (smaller (λ v. believed g (beating o v) got) (told_of o got) _ (λ v. believed_told g o v got) (with_value (λ v. believed g (beating o v) got) (newest g o got got))
    (top_with (λ v. believed g (beating o v) got) (told_of o got) (newest g o got got) (greatest g o got got))))
    (newest_top (g.f + 1) o (votes_in heart_told got)))

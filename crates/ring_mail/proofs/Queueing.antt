-- Messages that wait, and the first of each link.
use Rattle.std.proofs.Common.{◌≡◌, ℕ, zero, suc, ◌+◌, ◌*◌, ◌/◌, ◌%◌, ◌<◌, ◌≤◌, Bool, true, false, cond, not, ◌&&◌, ◌||◌, ◌==◌, nat_lt, List, [], ◌∷◌, length, set, slice_get, get_or, Option, Some, None, ⊎_elim, refl, sym, ap, ap₂, ◌∙◌, subst, subst₂, arith}
use Rattle.std.specs.List.{AllByRecursion as Each, list_any}
use Rattle.std.specs.List.Sorted.{IsStrictlySortedBy}
use Rattle.std.specs.Ordering.{nat_cmp, is_eq, match_ordering}
use Rattle.std.specs.declared.cmp.Ordering.TheVariants.{Less, Greater}
use Rattle.std.specs.BTreeMap.{is_at}
use Rattle.std.specs.BTreeSet.{BTreeSet, contains, insert_key, IsOrdered}
use Rattle.std.proofs.lemmas.Bool.{eqb-true, eq-eqb, ne_eqb, and_from, and_parts, cases_eq, false_from_ne_true, or_cases, lt-ltb, le-ltb, not-true}
use Rattle.std.proofs.lemmas.Bool.Decides.{nat_tests}
use Rattle.std.proofs.lemmas.List.{get_or-set_same, get_or-set_other}
use Rattle.std.proofs.lemmas.Map.Keys.{sorted_head}
use Rattle.ring_mail.specs.Queues.{has, waits, is_quiet, is_some_of, is_first, is_lead, Rises, AreHeads}

-- ---- keys of a set

tie : (s k : ℕ) → is_eq (nat_cmp s k) ≡ (s == k)
tie s k = grind (arith, nat_tests)

-- a head is known by its number and its link
pub joined : (head q first link : ℕ) → head / 676 ≡ first → head % 676 ≡ link → (q % 676 == link && first == q / 676) ≡ is_at (nat_cmp head) q
joined head q first link a b =
    ⊎_elim
    (λ e.
    let l : q % 676 ≡ link = ap (λ h. h % 676) (sym e) ∙ b in
    let f : first ≡ q / 676 = sym a ∙ ap (λ h. h / 676) e in
    and_from (q % 676 == link) (first == q / 676) (eq-eqb (q % 676) link l) (eq-eqb first (q / 676) f) ∙ sym (tie head q ∙ eq-eqb head q e))
    (λ apart.
    false_from_ne_true (q % 676 == link && first == q / 676)
    (λ t.
    let parts = and_parts (q % 676 == link) (first == q / 676) t in
    let l : q % 676 ≡ link = eqb-true (q % 676) link parts.0 in
    let f : first ≡ q / 676 = eqb-true first (q / 676) parts.1 in
    apart (omega arith))
    ∙ sym (tie head q ∙ ne_eqb head q apart))
    (cases_eq head q)

pub lead_is : (sets : List (BTreeSet ℕ)) (one : BTreeSet ℕ) (link first head q : ℕ) → slice_get sets link ≡ Some one → slice_get one.keys 0 ≡ Some first → head / 676 ≡ first → head % 676 ≡ link
    → is_lead sets link q ≡ is_at (nat_cmp head) q
lead_is sets one link first head q there is a b =
    ap (λ o. q % 676 == link && is_first o (q / 676)) there ∙ ap (λ o. q % 676 == link && is_some_of o (q / 676)) is ∙ joined head q first link a b

pub none_there : (n : ℕ) → (0 < n → false ≡ true) → n ≡ 0
none_there zero h = refl
none_there (suc n) h = absurd (cc (h (omega arith)))

none_first : (ks : List ℕ) (n : ℕ) → length ks ≡ 0 → is_some_of (slice_get ks 0) n ≡ false
none_first [] n e = refl
none_first (k ∷ ks) n e = absurd (omega arith)

and_no : (b : Bool) → (b && false) ≡ false
and_no true = refl
and_no false = refl

pub lead_none : (sets : List (BTreeSet ℕ)) (one : BTreeSet ℕ) (link q : ℕ) → slice_get sets link ≡ Some one → length one.keys ≡ 0 → is_lead sets link q ≡ false
lead_none sets one link q there none =
    ap (λ o. q % 676 == link && is_first o (q / 676)) there ∙ ap (λ b. q % 676 == link && b) (none_first one.keys (q / 676) none) ∙ and_no (q % 676 == link)

pub none_contained : (one : BTreeSet ℕ) (n : ℕ) → length one.keys ≡ 0 → contains nat_cmp one n ≡ true → ⊥
none_contained one n none t = nothing one.keys none t
  where
    nothing : (ks : List ℕ) → length ks ≡ 0 → list_any (is_at (nat_cmp n)) ks ≡ true → ⊥
    nothing [] e t = absurd (cc t)
    nothing (k ∷ ks) e t = absurd (omega arith)

-- ---- the first key

any_first : (ks : List ℕ) (n : ℕ) → is_some_of (slice_get ks 0) n ≡ true → list_any (is_at (nat_cmp n)) ks ≡ true
any_first [] n e = absurd (cc e)
any_first (k ∷ ks) n e = let same : k ≡ n = eqb-true k n e in ap (λ b. b || list_any (is_at (nat_cmp n)) ks) (tie n k ∙ eq-eqb n k (sym same))

pub first_waits : (o : Option (BTreeSet ℕ)) (n : ℕ) → is_first o n ≡ true → has o n ≡ true
first_waits None n e = absurd (cc e)
first_waits (Some one) n e = any_first one.keys n e

less : (x y : ℕ) → nat_cmp x y ≡ Less → x < y
less x y e = grind (arith, nat_tests)

below_any : (ks : List ℕ) (x n : ℕ) → Each (λ y. nat_cmp x y ≡ Less) ks → list_any (is_at (nat_cmp n)) ks ≡ true → x < n
below_any [] x n h t = absurd (cc t)
below_any (k ∷ ks) x n h t =
    ⊎_elim (λ s. let same : n ≡ k = eqb-true n k (sym (tie n k) ∙ s) in let low : x < k = less x k h.0 in omega arith) (λ s. below_any ks x n h.1 s) (or_cases (is_at (nat_cmp n) k) (list_any (is_at (nat_cmp n)) ks) t)

first_low : (ks : List ℕ) (n : ℕ) → IsStrictlySortedBy nat_cmp ks → list_any (is_at (nat_cmp n)) ks ≡ true → (k : ℕ) × (k ≤ n) × (is_some_of (slice_get ks 0) k ≡ true)
first_low [] n h t = absurd (cc t)
first_low (k ∷ ks) n h t = (
  k,
  ⊎_elim (λ s. let same : n ≡ k = eqb-true n k (sym (tie n k) ∙ s) in omega arith) (λ s. let low : k < n = below_any ks k n (sorted_head nat_cmp k ks h) s in omega arith)
      (or_cases (is_at (nat_cmp n) k) (list_any (is_at (nat_cmp n)) ks) t),
  eq-eqb k k refl,
)

-- the first that waits is not above any that waits
pub first_of : (o : Option (BTreeSet ℕ)) (n : ℕ) → Rises o → has o n ≡ true → (k : ℕ) × (k ≤ n) × (is_first o k ≡ true)
first_of None n h t = absurd (cc t)
first_of (Some one) n h t = first_low one.keys n h t

-- ---- heads

-- where a message waits on a link that is not muted, its first one is a head
pub head_there : (sets : List (BTreeSet ℕ)) (heads : BTreeSet ℕ) (muted : List Bool) (link n : ℕ) → AreHeads sets heads muted → link < 676 → is_quiet muted link ≡ false → waits sets link n ≡ true
    → (k : ℕ) × (k ≤ n) × (contains nat_cmp heads (k * 676 + link) ≡ true)
head_there sets heads muted link n h low loud t =
    let first = first_of (slice_get sets link) n (h.rise link) t in
    let l : (first.0 * 676 + link) % 676 ≡ link = omega (arith, low) in
    let f : (first.0 * 676 + link) / 676 ≡ first.0 = omega (arith, low) in (
      first.0,
      first.1,
      h.heads_are (first.0 * 676 + link) ∙ ap₂ (λ l n. not (is_quiet muted l) && is_first (slice_get sets l) n) l f ∙ and_from (not (is_quiet muted link)) (is_first (slice_get sets link) first.0) (ap not loud) first.2,
    )

pub head_waits : (sets : List (BTreeSet ℕ)) (heads : BTreeSet ℕ) (muted : List Bool) (head : ℕ) → AreHeads sets heads muted → contains nat_cmp heads head ≡ true
    → (link : ℕ) × (link < 676) × (is_quiet muted link ≡ false) × (waits sets link (head / 676) ≡ true)
head_waits sets heads muted head h t =
    let parts = and_parts (not (is_quiet muted (head % 676))) (is_first (slice_get sets (head % 676)) (head / 676)) (sym (h.heads_are head) ∙ t) in
    (head % 676, omega arith, loud parts.0, first_waits (slice_get sets (head % 676)) (head / 676) parts.1)
  where
    loud : not (is_quiet muted (head % 676)) ≡ true → is_quiet muted (head % 676) ≡ false
    loud = not-true (is_quiet muted (head % 676))

-- ---- a link that changes

pub slice_set_same : {X : Type 0} (xs : List X) (i : ℕ) (x : X) → i < length xs → slice_get (set xs i x) i ≡ Some x
slice_set_same [] i x low = absurd (omega arith)
slice_set_same (y ∷ xs) zero x low = refl
slice_set_same (y ∷ xs) (suc i) x low = slice_set_same xs i x (omega arith)

pub slice_set_other : {X : Type 0} (xs : List X) (i j : ℕ) (x : X) → (j ≡ i → ⊥) → slice_get (set xs i x) j ≡ slice_get xs j
slice_set_other [] i j x apart = refl
slice_set_other (y ∷ xs) zero zero x apart = absurd (apart refl)
slice_set_other (y ∷ xs) zero (suc j) x apart = refl
slice_set_other (y ∷ xs) (suc i) zero x apart = refl
slice_set_other (y ∷ xs) (suc i) (suc j) x apart = slice_set_other xs i j x (λ e. apart (ap suc e))

lead_at : (xs : List (BTreeSet ℕ)) (link q : ℕ) → q % 676 ≡ link → is_lead xs link q ≡ is_first (slice_get xs (q % 676)) (q / 676)
lead_at xs link q e = ap (λ b. b && is_first (slice_get xs link) (q / 676)) (eq-eqb (q % 676) link e) ∙ ap (λ l. is_first (slice_get xs l) (q / 676)) (sym e)

lead_off : (xs : List (BTreeSet ℕ)) (link q : ℕ) → (q % 676 ≡ link → ⊥) → is_lead xs link q ≡ false
lead_off xs link q apart = ap (λ b. b && is_first (slice_get xs link) (q / 676)) (ne_eqb (q % 676) link apart)

and_yes : (b : Bool) → (b && true) ≡ b
and_yes true = refl
and_yes false = refl

-- one that is no head is taken out, and the first is put in
one_link : (before without after old new quiet : Bool) → before ≡ (not quiet && old) → without ≡ cond old false before → after ≡ cond new (not quiet) without → after ≡ (not quiet && new)
one_link before without after true true quiet a b c = c ∙ sym (and_yes (not quiet))
one_link before without after true false quiet a b c = c ∙ b ∙ sym (and_no (not quiet))
one_link before without after false true quiet a b c = c ∙ sym (and_yes (not quiet))
one_link before without after false false quiet a b c = c ∙ b ∙ a

-- a link has another set now, and its head was taken out before and put in behind
pub changed : (sets : List (BTreeSet ℕ)) (one : BTreeSet ℕ) (heads without after : BTreeSet ℕ) (muted : List Bool) (link : ℕ) → link < length sets → IsOrdered nat_cmp one
    → ((q : ℕ) → contains nat_cmp without q ≡ cond (is_lead sets link q) false (contains nat_cmp heads q))
    → ((q : ℕ) → contains nat_cmp after q ≡ cond (is_lead (set sets link one) link q) (not (is_quiet muted link)) (contains nat_cmp without q))
    → AreHeads sets heads muted → AreHeads (set sets link one) after muted
changed sets one heads without after muted link low rises hidden shown h = record { rise = rise; heads_are = heads_are }
  where
    rise : (l : ℕ) → Rises (slice_get (set sets link one) l)
    rise l =
        ⊎_elim (λ e. subst Rises (sym (ap (λ l. slice_get (set sets link one) l) e ∙ slice_set_same sets link one low)) rises) (λ apart. subst Rises (sym (slice_set_other sets link l one apart)) (h.rise l)) (cases_eq l link)

    here : (q : ℕ) → q % 676 ≡ link → contains nat_cmp after q ≡ (not (is_quiet muted (q % 676)) && is_first (slice_get (set sets link one) (q % 676)) (q / 676))
    here q e =
        one_link (contains nat_cmp heads q) (contains nat_cmp without q) (contains nat_cmp after q) (is_first (slice_get sets (q % 676)) (q / 676)) (is_first (slice_get (set sets link one) (q % 676)) (q / 676))
        (is_quiet muted (q % 676)) (h.heads_are q) (hidden q ∙ ap (λ b. cond b false (contains nat_cmp heads q)) (lead_at sets link q e))
        (shown q ∙ ap₂ (λ b l. cond b (not (is_quiet muted l)) (contains nat_cmp without q)) (lead_at (set sets link one) link q e) (sym e))

    elsewhere : (q : ℕ) → (q % 676 ≡ link → ⊥) → contains nat_cmp after q ≡ (not (is_quiet muted (q % 676)) && is_first (slice_get (set sets link one) (q % 676)) (q / 676))
    elsewhere q apart =
        shown q ∙ ap (λ b. cond b (not (is_quiet muted link)) (contains nat_cmp without q)) (lead_off (set sets link one) link q apart) ∙ hidden q
        ∙ ap (λ b. cond b false (contains nat_cmp heads q)) (lead_off sets link q apart) ∙ h.heads_are q
        ∙ ap (λ o. not (is_quiet muted (q % 676)) && is_first o (q / 676)) (sym (slice_set_other sets link (q % 676) one apart))

    heads_are : (q : ℕ) → contains nat_cmp after q ≡ (not (is_quiet muted (q % 676)) && is_first (slice_get (set sets link one) (q % 676)) (q / 676))
    heads_are q = ⊎_elim (here q) (elsewhere q) (cases_eq (q % 676) link)

-- the same of what the calls leave
pub changed_as : (sets sets1 sets2 : List (BTreeSet ℕ)) (one : BTreeSet ℕ) (heads without after : BTreeSet ℕ) (muted muted1 muted2 : List Bool) (link : ℕ) → link < length sets → sets1 ≡ sets → sets2 ≡ set sets1 link one → muted1 ≡ muted → muted2 ≡ muted1
    → IsOrdered nat_cmp one
    → ((q : ℕ) → contains nat_cmp without q ≡ cond (is_lead sets link q) false (contains nat_cmp heads q))
    → ((q : ℕ) → contains nat_cmp after q ≡ cond (is_lead (set sets1 link one) link q) (not (is_quiet muted1 link)) (contains nat_cmp without q))
    → AreHeads sets heads muted → AreHeads sets2 after muted2
changed_as sets sets1 sets2 one heads without after muted muted1 muted2 link low s1 s2 m1 m2 rises hidden shown h =
    subst₂ (λ xs ms. AreHeads xs after ms) (sym (s2 ∙ ap (λ xs. set xs link one) s1)) (sym (m2 ∙ m1))
    (changed sets one heads without after muted link low rises hidden
    (λ q. shown q ∙ ap₂ (λ xs ms. cond (is_lead (set xs link one) link q) (not (is_quiet ms link)) (contains nat_cmp without q)) s1 m1) h)

-- one that comes behind the first leaves it first
first_stays : (ks : List ℕ) (first number n : ℕ) → is_some_of (slice_get ks 0) first ≡ true → first < number → is_some_of (slice_get (insert_key nat_cmp ks number) 0) n ≡ is_some_of (slice_get ks 0) n
first_stays [] first number n e low = absurd (cc e)
first_stays (k ∷ ks) first number n e low =
    let same : k ≡ first = eqb-true k first e in
    let above : nat_cmp number k ≡ Greater = greater number k (omega (arith, same, low)) in
    ap (λ o. is_some_of (slice_get (match_ordering o (number ∷ k ∷ ks) (k ∷ ks) (k ∷ insert_key nat_cmp ks number)) 0) n) above
  where
    greater : (x y : ℕ) → y < x → nat_cmp x y ≡ Greater
    greater x y l = grind (arith, nat_tests)

pub behind : (sets : List (BTreeSet ℕ)) (one new heads : BTreeSet ℕ) (muted : List Bool) (link number first : ℕ) → link < length sets → slice_get sets link ≡ Some one → is_first (slice_get sets link) first ≡ true → first < number
    → new.keys ≡ insert_key nat_cmp one.keys number → IsOrdered nat_cmp new → AreHeads sets heads muted → AreHeads (set sets link new) heads muted
behind sets one new heads muted link number first low there is below keys rises h = record { rise = rise; heads_are = λ q. h.heads_are q ∙ ap (λ b. not (is_quiet muted (q % 676)) && b) (sym (same (q % 676) (q / 676))) }
  where
    rise : (l : ℕ) → Rises (slice_get (set sets link new) l)
    rise l =
        ⊎_elim (λ e. subst Rises (sym (ap (λ l. slice_get (set sets link new) l) e ∙ slice_set_same sets link new low)) rises) (λ apart. subst Rises (sym (slice_set_other sets link l new apart)) (h.rise l)) (cases_eq l link)

    same : (l n : ℕ) → is_first (slice_get (set sets link new) l) n ≡ is_first (slice_get sets l) n
    same l n =
        ⊎_elim
        (λ e.
        ap (λ l. is_first (slice_get (set sets link new) l) n) e ∙ ap (λ o. is_first o n) (slice_set_same sets link new low) ∙ ap (λ ks. is_some_of (slice_get ks 0) n) keys
        ∙ first_stays one.keys first number n (ap (λ o. is_first o first) (sym there) ∙ is) below ∙ ap (λ o. is_first o n) (sym there) ∙ ap (λ l. is_first (slice_get sets l) n) (sym e))
        (λ apart. ap (λ o. is_first o n) (slice_set_other sets link l new apart)) (cases_eq l link)

-- ---- a seat that is muted, or no more

abbrev pub leads : List (BTreeSet ℕ) → List Bool → ℕ → Bool
leads sets muted q = not (is_quiet muted (q % 676)) && is_first (slice_get sets (q % 676)) (q / 676)

-- the links below a number have their heads by the new mutes, the others by the old ones
abbrev pub Shown : List (BTreeSet ℕ) → BTreeSet ℕ → List Bool → List Bool → ℕ → Type 0
Shown sets heads old new link = (q : ℕ) → contains nat_cmp heads q ≡ cond (nat_lt (q % 676) link) (leads sets new q) (leads sets old q)

pub shown_none : (sets : List (BTreeSet ℕ)) (heads : BTreeSet ℕ) (old new : List Bool) → AreHeads sets heads old → Shown sets heads old new 0
shown_none sets heads old new h = λ q. h.heads_are q ∙ sym (ap (λ b. cond b (leads sets new q) (leads sets old q)) (le-ltb (q % 676) 0 (omega arith)))

pub shown_all : (sets : List (BTreeSet ℕ)) (heads first : BTreeSet ℕ) (old new : List Bool) → AreHeads sets first old → Shown sets heads old new 676 → AreHeads sets heads new
shown_all sets heads first old new h s = record {
  rise = h.rise;
  heads_are = λ q. s q ∙ ap (λ b. cond b (leads sets new q) (leads sets old q)) (lt-ltb (q % 676) 676 (omega arith));
}

next_below : (l link : ℕ) → (l ≡ link → ⊥) → nat_lt l (link + 1) ≡ nat_lt l link
next_below l link apart = grind (arith, nat_tests)

-- the next link's head is put in or taken out
pub shown_one : (sets : List (BTreeSet ℕ)) (heads after : BTreeSet ℕ) (old new : List Bool) (link : ℕ) → Shown sets heads old new link
    → ((q : ℕ) → contains nat_cmp after q ≡ cond (is_lead sets link q) (not (is_quiet new link)) (contains nat_cmp heads q)) → Shown sets after old new (link + 1)
shown_one sets heads after old new link h shown q = ⊎_elim here elsewhere (cases_eq (q % 676) link)
  where
    one : (before quiet was first : Bool) → before ≡ (not was && first) → cond first (not quiet) before ≡ (not quiet && first)
    one before quiet was true e = sym (and_yes (not quiet))
    one before quiet was false e = e ∙ and_no (not was) ∙ sym (and_no (not quiet))

    here : q % 676 ≡ link → contains nat_cmp after q ≡ cond (nat_lt (q % 676) (link + 1)) (leads sets new q) (leads sets old q)
    here e =
        shown q ∙ ap₂ (λ b l. cond b (not (is_quiet new l)) (contains nat_cmp heads q)) (lead_at sets link q e) (sym e)
        ∙ one (contains nat_cmp heads q) (is_quiet new (q % 676)) (is_quiet old (q % 676)) (is_first (slice_get sets (q % 676)) (q / 676))
        (h q ∙ ap (λ b. cond b (leads sets new q) (leads sets old q)) (le-ltb (q % 676) link (omega (arith, e))))
        ∙ sym (ap (λ b. cond b (leads sets new q) (leads sets old q)) (lt-ltb (q % 676) (link + 1) (omega (arith, e))))

    elsewhere : (q % 676 ≡ link → ⊥) → contains nat_cmp after q ≡ cond (nat_lt (q % 676) (link + 1)) (leads sets new q) (leads sets old q)
    elsewhere apart =
        shown q ∙ ap (λ b. cond b (not (is_quiet new link)) (contains nat_cmp heads q)) (lead_off sets link q apart) ∙ h q
        ∙ ap (λ b. cond b (leads sets new q) (leads sets old q)) (sym (next_below (q % 676) link apart))

-- a link that the seat does not touch stays as it is
pub shown_same : (sets : List (BTreeSet ℕ)) (heads : BTreeSet ℕ) (old : List Bool) (seat link : ℕ) (muted : Bool) → (link / 26 ≡ seat → ⊥) → (link % 26 ≡ seat → ⊥)
    → Shown sets heads old (set old seat muted) link → Shown sets heads old (set old seat muted) (link + 1)
shown_same sets heads old seat link muted a b h q = ⊎_elim here elsewhere (cases_eq (q % 676) link)
  where
    same : is_quiet (set old seat muted) link ≡ is_quiet old link
    same = ap₂ (λ x y. x || y) (get_or-set_other old seat (link / 26) muted false a) (get_or-set_other old seat (link % 26) muted false b)

    here : q % 676 ≡ link → contains nat_cmp heads q ≡ cond (nat_lt (q % 676) (link + 1)) (leads sets (set old seat muted) q) (leads sets old q)
    here e =
        h q ∙ ap (λ b. cond b (leads sets (set old seat muted) q) (leads sets old q)) (le-ltb (q % 676) link (omega (arith, e)))
        ∙ ap (λ b. not b && is_first (slice_get sets (q % 676)) (q / 676)) (ap (is_quiet old) e ∙ sym same ∙ ap (is_quiet (set old seat muted)) (sym e))
        ∙ sym (ap (λ b. cond b (leads sets (set old seat muted) q) (leads sets old q)) (lt-ltb (q % 676) (link + 1) (omega (arith, e))))

    elsewhere : (q % 676 ≡ link → ⊥) → contains nat_cmp heads q ≡ cond (nat_lt (q % 676) (link + 1)) (leads sets (set old seat muted) q) (leads sets old q)
    elsewhere apart = h q ∙ ap (λ b. cond b (leads sets (set old seat muted) q) (leads sets old q)) (sym (next_below (q % 676) link apart))

pub muted_at : (old : List Bool) (seat s : ℕ) (muted : Bool) → seat < length old → get_or (set old seat muted) s false ≡ cond (s == seat) muted (get_or old s false)
muted_at old seat s muted low =
    ⊎_elim (λ e. ap (λ s. get_or (set old seat muted) s false) e ∙ get_or-set_same old seat muted false low ∙ ap (λ b. cond b muted (get_or old s false)) (sym (eq-eqb s seat e)))
    (λ apart. get_or-set_other old seat s muted false apart ∙ ap (λ b. cond b muted (get_or old s false)) (sym (ne_eqb s seat apart))) (cases_eq s seat)

-- ---- empty sets

pub none_wait : (sets : List (BTreeSet ℕ)) (link n : ℕ) → Each (λ (one : BTreeSet ℕ). one.keys ≡ []) sets → waits sets link n ≡ false
none_wait [] link n h = refl
none_wait (one ∷ sets) zero n h = ap (list_any (is_at (nat_cmp n))) h.0
none_wait (one ∷ sets) (suc link) n h = none_wait sets link n h.1

rises_none : (sets : List (BTreeSet ℕ)) (link : ℕ) → Each (λ (one : BTreeSet ℕ). one.keys ≡ []) sets → Rises (slice_get sets link)
unfolding IsStrictlySortedBy
rises_none [] link h = tt
rises_none (one ∷ sets) zero h = subst (IsStrictlySortedBy nat_cmp) (sym h.0) tt
rises_none (one ∷ sets) (suc link) h = rises_none sets link h.1

first_none : (sets : List (BTreeSet ℕ)) (link n : ℕ) → Each (λ (one : BTreeSet ℕ). one.keys ≡ []) sets → is_first (slice_get sets link) n ≡ false
first_none [] link n h = refl
first_none (one ∷ sets) zero n h = ap (λ ks. is_some_of (slice_get ks 0) n) h.0
first_none (one ∷ sets) (suc link) n h = first_none sets link n h.1

pub no_heads : (sets : List (BTreeSet ℕ)) (heads : BTreeSet ℕ) (muted : List Bool) → Each (λ (one : BTreeSet ℕ). one.keys ≡ []) sets → heads.keys ≡ [] → AreHeads sets heads muted
no_heads sets heads muted h none = record {
  rise = λ link. rises_none sets link h;
  heads_are = λ q. ap (list_any (is_at (nat_cmp q))) none ∙ sym (ap (λ b. not (is_quiet muted (q % 676)) && b) (first_none sets (q % 676) (q / 676) h) ∙ and_no (not (is_quiet muted (q % 676))));
}

pub none_muted : (muted : List Bool) (seat : ℕ) → Each (λ b. b ≡ false) muted → get_or muted seat false ≡ false
none_muted [] seat h = refl
none_muted (b ∷ muted) zero h = h.0
none_muted (b ∷ muted) (suc seat) h = none_muted muted seat h.1

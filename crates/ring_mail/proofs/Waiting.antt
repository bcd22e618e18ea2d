-- Which messages wait.
use Rattle.std.proofs.Common.{◌≡◌, ℕ, zero, suc, ◌+◌, ◌<◌, ◌≤◌, Bool, true, false, cond, not, ◌&&◌, ◌||◌, ◌==◌, List, [], ◌∷◌, ◌++◌, length, slice_get, Option, Some, None, ⊎_elim, refl, sym, ap, ap₂, ◌∙◌, subst, arith, find, append-nil, append_assoc, length-append}
use Rattle.std.specs.BTreeSet.{BTreeSet}
use Rattle.std.proofs.lemmas.Bool.{eqb-true, eq-eqb, ne_eqb, and_from, and_parts, cases_eq, false_from_ne_true}
use Rattle.std.proofs.lemmas.Bool.Decides.{nat_tests}
use Rattle.std.proofs.lemmas.List.Elements.{filter-append}
use Rattle.std.proofs.lemmas.List.Folds.{list_any-append}
use Rattle.ring_model.specs.Messages.{Packet as Sent, same_party}
use Rattle.ring_model.specs.World.{between}
use Rattle.ring_model.proofs.History.{same_some}
use Rattle.ring_mail.specs.Places.{link_of}
use Rattle.ring_model.specs.Places.{Place, placed, places, is_done, same_place, delivery}
use Rattle.ring_mail.specs.Mails.{is_open}
use Rattle.ring_mail.specs.Queues.{waits, is_some_of}
use Rattle.ring_mail.proofs.Keeping.{same_party-refl, same_party-true, slice_pushed, delivery_there, delivery_none}

-- ---- the first that passes a test

pub find_least : {X : Type 0} (t : X → Bool) (xs : List X) (n : ℕ) (x : X) → slice_get xs n ≡ Some x → t x ≡ true → ((m : ℕ) (y : X) → m < n → slice_get xs m ≡ Some y → t y ≡ false) → find t xs ≡ Some x
find_least t [] n x e y h = absurd (cc e)
find_least t (z ∷ xs) zero x e y h = let same : z ≡ x = same_some z x e in ap (λ b. cond b (Some z) (find t xs)) (ap t same ∙ y) ∙ ap Some same
find_least t (z ∷ xs) (suc n) x e y h = ap (λ b. cond b (Some z) (find t xs)) (h 0 z (omega arith) refl) ∙ find_least t xs n x e y (λ m w low. h (suc m) w (omega arith))

pub find_no : {X : Type 0} (t : X → Bool) (xs : List X) → ((m : ℕ) (y : X) → slice_get xs m ≡ Some y → t y ≡ false) → find t xs ≡ None
find_no t [] h = refl
find_no t (z ∷ xs) h = ap (λ b. cond b (Some z) (find t xs)) (h 0 z refl) ∙ find_no t xs (λ m. h (suc m))

-- ---- places

seam : {X : Type 0} (xs ys : List X) (y : X) → slice_get (xs ++ y ∷ ys) (length xs) ≡ Some y
seam [] ys y = refl
seam (x ∷ xs) ys y = seam xs ys y

-- a place leads to its message
pub place_leads : (before xs : List Sent) (i : ℕ) (a : Place) → slice_get (placed before xs) i ≡ Some a
    → (x : Sent) × (slice_get xs i ≡ Some x) × (x.from ≡ a.from) × (x.to ≡ a.to) × (slice_get (between a.from a.to (before ++ xs)) a.place ≡ Some x)
place_leads before [] i a e = absurd (cc e)
place_leads before (x ∷ xs) zero a e =
    let here : record { from = x.from; to = x.to; place = length (between x.from x.to before) } ≡ a = same_some _ a e in (
      x,
      refl,
      ap (λ (a : Place). a.from) here,
      ap (λ (a : Place). a.to) here,
      subst (λ (a : Place). slice_get (between a.from a.to (before ++ x ∷ xs)) a.place ≡ Some x) here
          (ap (λ ys. slice_get ys (length (between x.from x.to before)))
          (filter-append (λ (y : Sent). same_party y.from x.from && same_party y.to x.to) before (x ∷ xs)
          ∙ ap (λ b. between x.from x.to before ++ cond b (x ∷ between x.from x.to xs) (between x.from x.to xs)) (and_from (same_party x.from x.from) (same_party x.to x.to) (same_party-refl x.from) (same_party-refl x.to)))
          ∙ seam (between x.from x.to before) (between x.from x.to xs) x),
    )
place_leads before (x ∷ xs) (suc i) a e =
    let next = place_leads (before ++ x ∷ []) xs i a e in
    (next.0, next.1, next.2, next.3, subst (λ ys. slice_get (between a.from a.to ys) a.place ≡ Some next.0) (append_assoc before (x ∷ []) xs) next.4)

pub same_place-refl : (a : Place) → same_place a a ≡ true
same_place-refl a = and_from (same_party a.from a.from && same_party a.to a.to) _ (and_from (same_party a.from a.from) (same_party a.to a.to) (same_party-refl a.from) (same_party-refl a.to)) (eq-eqb a.place a.place refl)

pub same_place-true : (a b : Place) → same_place a b ≡ true → a ≡ b
same_place-true a b t =
    let parts = and_parts (same_party a.from b.from && same_party a.to b.to) (a.place == b.place) t in
    let ends = and_parts (same_party a.from b.from) (same_party a.to b.to) parts.0 in
    ap (λ p. record { from = p; to = a.to; place = a.place }) (same_party-true a.from b.from ends.0)
    ∙ ap (λ q. record { from = b.from; to = q; place = a.place }) (same_party-true a.to b.to ends.1)
    ∙ ap (λ k. record { from = b.from; to = b.to; place = k }) (eqb-true a.place b.place parts.1)

placed_low : (before xs : List Sent) (n : ℕ) (a : Place) → slice_get (placed before xs) n ≡ Some a → length (between a.from a.to before) ≤ a.place
placed_low before [] n a e = absurd (cc e)
placed_low before (x ∷ xs) zero a e =
    subst (λ (a : Place). length (between a.from a.to before) ≤ a.place) (same_some (record { from = x.from; to = x.to; place = length (between x.from x.to before) }) a e) (omega arith)
placed_low before (x ∷ xs) (suc n) a e =
    let low : length (between a.from a.to (before ++ x ∷ [])) ≤ a.place = placed_low (before ++ x ∷ []) xs n a e in
    let all = ap length (filter-append (λ (y : Sent). same_party y.from a.from && same_party y.to a.to) before (x ∷ [])) ∙ length-append (between a.from a.to before) (between a.from a.to (x ∷ [])) in
    omega (arith, low, all)

-- of one link, so many messages and one more
own_more : (before : List Sent) (x : Sent) → length (between x.from x.to (before ++ x ∷ [])) ≡ length (between x.from x.to before) + 1
own_more before x =
    ap length
    (filter-append (λ (y : Sent). same_party y.from x.from && same_party y.to x.to) before (x ∷ [])
    ∙ ap (λ b. between x.from x.to before ++ cond b (x ∷ []) []) (and_from (same_party x.from x.from) (same_party x.to x.to) (same_party-refl x.from) (same_party-refl x.to)))
    ∙ length-append (between x.from x.to before) (x ∷ [])

first_once : (before xs : List Sent) (x : Sent) (n : ℕ) (a : Place) → record { from = x.from; to = x.to; place = length (between x.from x.to before) } ≡ a → slice_get (placed (before ++ x ∷ []) xs) n ≡ Some a → ⊥
first_once before xs x n a is e =
    let low : length (between x.from x.to (before ++ x ∷ [])) ≤ length (between x.from x.to before) =
    subst (λ (a : Place). length (between a.from a.to (before ++ x ∷ [])) ≤ a.place) (sym is) (placed_low (before ++ x ∷ []) xs n a e) in
    let more = own_more before x in
    absurd (omega (arith, low, more))

-- no two messages have one place
pub placed_apart : (before xs : List Sent) (m n : ℕ) (a : Place) → slice_get (placed before xs) m ≡ Some a → slice_get (placed before xs) n ≡ Some a → m ≡ n
placed_apart before [] m n a e f = absurd (cc e)
placed_apart before (x ∷ xs) zero zero a e f = refl
placed_apart before (x ∷ xs) zero (suc n) a e f = absurd (first_once before xs x n a (same_some _ a e) f)
placed_apart before (x ∷ xs) (suc m) zero a e f = absurd (first_once before xs x m a (same_some _ a f) e)
placed_apart before (x ∷ xs) (suc m) (suc n) a e f = ap suc (placed_apart (before ++ x ∷ []) xs m n a e f)

-- where a link has no message at a place, no message has that place
pub absent : (sent : List Sent) (b : Place) → slice_get (between b.from b.to sent) b.place ≡ None → (n : ℕ) (a : Place) → slice_get (places sent) n ≡ Some a → same_place b a ≡ false
absent sent b none n a e =
    false_from_ne_true (same_place b a)
    (λ t.
    let there = place_leads [] sent n b (e ∙ ap Some (sym (same_place-true b a t))) in
    absurd (cc (none, there.4)))

-- ---- tests

or_no : (b : Bool) → (b || false) ≡ b
or_no true = refl
or_no false = refl

and_no : (b : Bool) → (b && false) ≡ false
and_no true = refl
and_no false = refl

and_yes : (b : Bool) → (b && true) ≡ b
and_yes true = refl
and_yes false = refl

flip : (m n : ℕ) → (m == n) ≡ (n == m)
flip m n = grind (arith, nat_tests)

-- ---- a message more

and_flip : (x y : Bool) → (x && y) ≡ (y && x)
and_flip true true = refl
and_flip true false = refl
and_flip false true = refl
and_flip false false = refl

-- it waits unless it was lost before
pub added : (ps : List Place) (b : Place) (passed : Place → Bool) (link number : ℕ) (old new : List (BTreeSet ℕ)) → link ≡ link_of b.from b.to → number ≡ length ps
    → ((l n : ℕ) → waits new l n ≡ (waits old l n || (not (passed b) && (l == link && n == number))))
    → ((l n : ℕ) → waits old l n ≡ is_open passed l (slice_get ps n)) → (l n : ℕ) → waits new l n ≡ is_open passed l (slice_get (ps ++ b ∷ []) n)
added ps b passed link number old new at last is h l n =
    ⊎_elim
    (λ (s : (n ≡ length ps) × (slice_get (ps ++ b ∷ []) n ≡ Some b) × (slice_get ps n ≡ None)).
    is l n ∙ ap₂ (λ x y. x || (not (passed b) && (l == link && y))) (h l n ∙ ap (is_open passed l) s.2) (eq-eqb n number (s.0 ∙ sym last))
    ∙ ap (λ x. not (passed b) && x) (and_yes (l == link) ∙ ap (λ k. l == k) at ∙ flip l (link_of b.from b.to)) ∙ and_flip (not (passed b)) (link_of b.from b.to == l) ∙ ap (is_open passed l) (sym s.1))
    (λ s.
    is l n ∙ ap (λ y. waits old l n || (not (passed b) && (l == link && y))) (ne_eqb n number (λ e. s.0 (e ∙ last)))
    ∙ ap (λ x. waits old l n || x) (ap (λ x. not (passed b) && x) (and_no (l == link)) ∙ and_no (not (passed b))) ∙ or_no (waits old l n) ∙ h l n ∙ ap (is_open passed l) (sym s.1))
    (slice_pushed ps b n)

-- ---- a message that is passed

open_same : (p q : Place → Bool) (l : ℕ) (a : Place) → q a ≡ p a → is_open p l (Some a) ≡ is_open q l (Some a)
open_same p q l a e = ap (λ b. link_of a.from a.to == l && not b) (sym e)

not_here : (ps : List Place) (b : Place) (p q : Place → Bool) (l n : ℕ) → ((a : Place) → slice_get ps n ≡ Some a → same_place b a ≡ false) → ((a : Place) → slice_get ps n ≡ Some a → q a ≡ (p a || same_place b a))
    → is_open p l (slice_get ps n) ≡ is_open q l (slice_get ps n)
not_here ps b p q l n apart more =
    elim (slice_get ps n) as (λ o. slice_get ps n ≡ o → is_open p l o ≡ is_open q l o) [
      | None ↦ λ e. refl
      | Some a ↦ λ e. open_same p q l a (more a e ∙ ap (λ x. p a || x) (apart a e) ∙ or_no (p a))
    ] refl

or_yes : (b : Bool) → (b || true) ≡ true
or_yes true = refl
or_yes false = refl

gone : (o : Bool) → (o && not o) ≡ false
gone true = refl
gone false = refl

-- the message of this number, if there is one, does not wait
pub taken : (ps : List Place) (b : Place) (p q : Place → Bool) (link : ℕ) (number : Option ℕ) (old new : List (BTreeSet ℕ)) → link ≡ link_of b.from b.to
    → ((n : ℕ) → number ≡ Some n → slice_get ps n ≡ Some b) → (number ≡ None → (n : ℕ) (a : Place) → slice_get ps n ≡ Some a → same_place b a ≡ false)
    → ((m n : ℕ) (a : Place) → slice_get ps m ≡ Some a → slice_get ps n ≡ Some a → m ≡ n)
    → ((n : ℕ) (a : Place) → slice_get ps n ≡ Some a → q a ≡ (p a || same_place b a))
    → ((l n : ℕ) → waits new l n ≡ (waits old l n && not (l == link && is_some_of number n)))
    → ((l n : ℕ) → waits old l n ≡ is_open p l (slice_get ps n)) → (l n : ℕ) → waits new l n ≡ is_open q l (slice_get ps n)
taken ps b p q link None old new at some none apart more is h l n =
    is l n ∙ ap (λ x. waits old l n && not x) (and_no (l == link)) ∙ and_yes (waits old l n) ∙ h l n ∙ not_here ps b p q l n (none refl n) (more n)
taken ps b p q link (Some number) old new at some none apart more is h l n = ⊎_elim here elsewhere (cases_eq number n)
  where
    there : slice_get ps number ≡ Some b
    there = some number refl

    here : number ≡ n → waits new l n ≡ is_open q l (slice_get ps n)
    here e =
        let found : slice_get ps n ≡ Some b = ap (slice_get ps) (sym e) ∙ there in
        is l n ∙ ap₂ (λ x y. x && not (l == link && y)) (h l n ∙ ap (is_open p l) found) (eq-eqb number n e)
        ∙ ap (λ x. (link_of b.from b.to == l && not (p b)) && not x) (and_yes (l == link) ∙ ap (λ k. l == k) at ∙ flip l (link_of b.from b.to))
        ∙ none_left (link_of b.from b.to == l) (not (p b))
        ∙ sym (ap (λ x. link_of b.from b.to == l && not x) (more n b found ∙ ap (λ x. p b || x) (same_place-refl b) ∙ or_yes (p b)) ∙ and_no (link_of b.from b.to == l)) ∙ ap (is_open q l) (sym found)
      where
        none_left : (x y : Bool) → ((x && y) && not x) ≡ false
        none_left true y = and_no y
        none_left false y = refl

    elsewhere : (number ≡ n → ⊥) → waits new l n ≡ is_open q l (slice_get ps n)
    elsewhere e =
        is l n ∙ ap (λ x. waits old l n && not (l == link && x)) (ne_eqb number n e) ∙ ap (λ x. waits old l n && not x) (and_no (l == link)) ∙ and_yes (waits old l n) ∙ h l n
        ∙ not_here ps b p q l n
        (λ a f. false_from_ne_true (same_place b a) (λ t. e (apart number n b there (f ∙ ap Some (sym (same_place-true b a t)))))) (more n)

-- what a delivery does to the places that were delivered
pub done_more : (sent : List Sent) (done : List Place) (b : Place) (n : ℕ) (a : Place) → slice_get (places sent) n ≡ Some a → is_done (done ++ delivery sent b) a ≡ (is_done done a || same_place b a)
done_more sent done b n a e =
    elim (slice_get (between b.from b.to sent) b.place) as (λ o. slice_get (between b.from b.to sent) b.place ≡ o → is_done (done ++ delivery sent b) a ≡ (is_done done a || same_place b a)) [
      | None ↦ λ none.
          ap (λ ds. is_done ds a) (ap (λ ds. done ++ ds) (delivery_none sent b none) ∙ append-nil done) ∙ sym (ap (λ x. is_done done a || x) (absent sent b none n a e) ∙ or_no (is_done done a))
      | Some x ↦ λ there.
          ap (λ ds. is_done (done ++ ds) a) (delivery_there sent b x there) ∙ list_any-append (λ d. same_place d a) done (b ∷ []) ∙ ap (λ x. is_done done a || x) (or_no (same_place b a))
    ] refl

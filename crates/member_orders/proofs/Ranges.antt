-- What a range of slots gives, slot by slot.
use Rattle.std.proofs.Common.{◌≡◌, ℕ, zero, suc, ◌+◌, ◌-◌, ◌<◌, ◌≤◌, List, [], ◌∷◌, ◌++◌, length, flat_map, slice_get, Option, None, refl, sym, ap, ap₂, ◌∙◌, arith, ⊎_elim}
use Rattle.std.specs.List.{range_with_len}
use Rattle.std.proofs.lemmas.Bool.{cases_lt}
use Rattle.ring_model.specs.Messages.{Message, PrePrepare}
use Rattle.ring_model.proofs.Lists.{at_some}
use Rattle.member_orders.specs.Told.{news_of, told_from}
use Rattle.member_orders.proofs.Going.{told_beyond}
use Rattle.std.proofs.lemmas.Bool.Decides.{nat_tests}
use Rattle.std.proofs.Common.{cond, true, nat_lt}

pub flat_nil : {X : Type 0} (F : ℕ → List X) (n a : ℕ) → ((s : ℕ) → a ≤ s → s < a + n → F s ≡ []) → flat_map F (range_with_len a n) ≡ []
flat_nil F zero a h = refl
flat_nil F (suc n) a h = ap (λ xs. xs ++ flat_map F (range_with_len (a + 1) n)) (h a (omega arith) (omega arith)) ∙ flat_nil F n (a + 1) (λ s k l. h s (omega arith) (omega arith))

pub flat_same : {X : Type 0} (F G : ℕ → List X) (n a : ℕ) → ((s : ℕ) → a ≤ s → F s ≡ G s) → flat_map F (range_with_len a n) ≡ flat_map G (range_with_len a n)
flat_same F G zero a h = refl
flat_same F G (suc n) a h = ap₂ (λ xs ys. xs ++ ys) (h a (omega arith)) (flat_same F G n (a + 1) (λ s l. h s (omega arith)))

-- the first slots give nothing
pub skip : {X : Type 0} (G : ℕ → List X) (m n a N : ℕ) → N ≡ m + n → ((s : ℕ) → a ≤ s → s < a + m → G s ≡ []) → flat_map G (range_with_len a N) ≡ flat_map G (range_with_len (a + m) n)
skip G zero n a N e h = ap (λ k. flat_map G (range_with_len a k)) (omega arith) ∙ ap (λ k. flat_map G (range_with_len k n)) (omega arith)
skip G (suc m) n a N e h =
    let more : N ≡ suc (m + n) = omega arith in
    ap (λ k. flat_map G (range_with_len a k)) more
    ∙ ap (λ xs. xs ++ flat_map G (range_with_len (a + 1) (m + n))) (h a (omega arith) (omega arith))
    ∙ skip G m n (a + 1) (m + n) refl (λ s l u. h s (omega arith) (omega arith))
    ∙ ap (λ k. flat_map G (range_with_len k n)) (omega arith)

-- ---- places of a list

abbrev pub place : {X : Type 0} → List X → ℕ → Option X
place xs zero = None
place xs (suc k) = slice_get xs k

at_past : {X : Type 0} (xs : List X) (k : ℕ) → length xs ≤ k → slice_get xs k ≡ None
at_past [] k h = refl
at_past (x ∷ xs) zero h = absurd (omega arith)
at_past (x ∷ xs) (suc k) h = at_past xs k (omega arith)

at_behind : {X : Type 0} (xs ys : List X) (j k : ℕ) → k ≡ length xs + j → slice_get (xs ++ ys) k ≡ slice_get ys j
at_behind [] ys j k e = ap (slice_get ys) (omega arith)
at_behind (x ∷ xs) ys j zero e = absurd (omega arith)
at_behind (x ∷ xs) ys j (suc k) e = at_behind xs ys j k (omega arith)

-- what is told of the places of ys, which stand behind the first a
told_places : (ys : List (List ℕ)) (a m : ℕ) (G : ℕ → List Message) → m ≡ 65536 - a → ((j k : ℕ) → k ≡ 1 + a + j → G k ≡ news_of None (slice_get ys j) (PrePrepare k)) → flat_map G (range_with_len (1 + a) m) ≡ told_from a ys
told_places [] a m G e f = flat_nil G m (1 + a) (λ s low high. f (s - (1 + a)) s (omega arith))
told_places (y ∷ ys) a zero G e f = sym (told_beyond a (y ∷ ys) (omega arith))
told_places (y ∷ ys) a (suc m) G e f =
    let low : nat_lt a 65536 ≡ true = grind (arith, nat_tests, e) in
    ap₂ (λ xs zs. xs ++ zs)
    (f 0 (1 + a) (omega arith) ∙ ap (λ k. PrePrepare k y ∷ []) (omega arith) ∙ sym (ap (λ b. cond b (PrePrepare (a + 1) y ∷ []) []) low))
    (ap (λ k. flat_map G (range_with_len k m)) (omega arith) ∙ told_places ys (a + 1) m G (omega arith) (λ j k u. f (suc j) k (omega arith)))

-- what is told of a list that grew
pub told_grown : (xs ys : List (List ℕ)) → flat_map (λ k. news_of (place xs k) (place (xs ++ ys) k) (PrePrepare k)) (range_with_len 1 65536) ≡ told_from (length xs) ys
told_grown xs ys = ⊎_elim short long (cases_lt (length xs) 65536)
  where
    G : ℕ → List Message
    G k = news_of (place xs k) (place (xs ++ ys) k) (PrePrepare k)

    old : (s : ℕ) → 1 ≤ s → s < 1 + length xs → news_of (place xs s) (place (xs ++ ys) s) (PrePrepare s) ≡ []
    old zero low high = absurd (omega arith)
    old (suc k) low high = let there = at_some xs k (omega arith) in ap (λ o. news_of o (slice_get (xs ++ ys) k) (PrePrepare (suc k))) there.1

    new : (j k : ℕ) → k ≡ 1 + length xs + j → news_of (place xs k) (place (xs ++ ys) k) (PrePrepare k) ≡ news_of None (slice_get ys j) (PrePrepare k)
    new j zero e = absurd (omega arith)
    new j (suc k) e = ap₂ (λ o u. news_of o u (PrePrepare (suc k))) (at_past xs k (omega arith)) (at_behind xs ys j k (omega arith))

    short : length xs < 65536 → flat_map (λ k. news_of (place xs k) (place (xs ++ ys) k) (PrePrepare k)) (range_with_len 1 65536) ≡ told_from (length xs) ys
    short low =
        skip (λ k. news_of (place xs k) (place (xs ++ ys) k) (PrePrepare k)) (length xs) (65536 - length xs) 1 65536 (omega arith) old
        ∙ told_places ys (length xs) (65536 - length xs) (λ k. news_of (place xs k) (place (xs ++ ys) k) (PrePrepare k)) refl new

    long : 65536 ≤ length xs → flat_map (λ k. news_of (place xs k) (place (xs ++ ys) k) (PrePrepare k)) (range_with_len 1 65536) ≡ told_from (length xs) ys
    long high = flat_nil (λ k. news_of (place xs k) (place (xs ++ ys) k) (PrePrepare k)) 65536 1 (λ s low top. old s low (omega arith)) ∙ sym (told_beyond (length xs) ys high)

-- A list of slots that rise gives what all slots give, where the others give nothing.
use Rattle.std.proofs.Common.{◌≡◌, ℕ, zero, suc, ◌+◌, ◌-◌, ◌<◌, ◌≤◌, false, cond, ◌==◌, List, [], ◌∷◌, ◌++◌, length, take, get_or, flat_map, Some, None, refl, ap, ap₂, sym, ◌∙◌, arith, ⊎_elim, inl, inr, ◌⊎◌, is_eq, nat_cmp, Less, append_assoc, append-nil}
use Rattle.std.specs.List.{list_any, range_with_len, AllByRecursion as Each}
use Rattle.std.specs.Map.{lookup, keys_of}
use Rattle.std.specs.BTreeMap.{is_at}
use Rattle.std.specs.List.Sorted.{IsStrictlySortedBy}
use Rattle.std.proofs.lemmas.Map.Keys.{sorted_head, sorted_tail}
use Rattle.std.proofs.lemmas.Bool.{cases_eq, cases_lt, ne_eqb, or_parts, or_from}
use Rattle.std.proofs.lemmas.Bool.Decides.{nat_tests}
use Rattle.std.proofs.lemmas.List.{take_more}
use Rattle.std.proofs.lemmas.Grind.{flat_map-append}
use Rattle.ring_member.proofs.Telling.{flat_nil}

-- what is not among the keys is not there
pub not_there : {X : Type 0} (es : List (ℕ × X)) (s : ℕ) → list_any (λ k. k == s) (keys_of es) ≡ false → lookup (is_at (nat_cmp s)) es ≡ None
not_there [] s e = refl
not_there (x ∷ es) s e =
    let parts = or_parts (x.0 == s) (list_any (λ k. k == s) (keys_of es)) e in
    ap (λ b. cond b (Some x.1) (lookup (is_at (nat_cmp s)) es)) (apart x.0 parts.0) ∙ not_there es s parts.1
  where
    apart : (k : ℕ) → (k == s) ≡ false → is_eq (nat_cmp s k) ≡ false
    apart k f = grind (arith, nat_tests)

-- one slot more of a list
pub items_step : {X : Type 0} (F : ℕ → List X) (before so_far now piece : List X) (ks : List ℕ) (i : ℕ) → i < length ks
    → so_far ≡ before ++ flat_map F (take i ks) → now ≡ so_far ++ piece → piece ≡ F (get_or ks i 0) → now ≡ before ++ flat_map F (take (i + 1) ks)
items_step F before so_far now piece ks i low m n p =
    n ∙ ap₂ (λ xs ys. xs ++ ys) m p ∙ append_assoc before (flat_map F (take i ks)) (F (get_or ks i 0))
    ∙ ap (λ xs. before ++ xs) (sym (ap (flat_map F) (take_more ks i 0 low) ∙ flat_map-append F (take i ks) (get_or ks i 0 ∷ []) ∙ ap (λ xs. flat_map F (take i ks) ++ xs) (append-nil (F (get_or ks i 0)))))

-- ---- rising keys give what the range gives

abbrev pub Above : ℕ → List ℕ → Type 0
Above k ks = Each (λ j. k < j) ks

abbrev pub Rising : List ℕ → Type 0
Rising [] = Unit {0}
Rising (k ∷ ks) = Above k ks × Rising ks

less_above : (k : ℕ) (ks : List ℕ) → Each (λ y. nat_cmp k y ≡ Less) ks → Above k ks
less_above k [] h = tt
less_above k (y ∷ ks) h = (less k y h.0, less_above k ks h.1)
  where
    less : (a b : ℕ) → nat_cmp a b ≡ Less → a < b
    less a b e = grind (arith, nat_tests)

pub rising : (ks : List ℕ) → IsStrictlySortedBy nat_cmp ks → Rising ks
rising [] h = tt
rising (k ∷ ks) h = (less_above k ks (sorted_head nat_cmp k ks h), rising ks (sorted_tail nat_cmp k ks h))

not_above : (k : ℕ) (ks : List ℕ) (s : ℕ) → s ≤ k → Above k ks → list_any (λ j. j == s) ks ≡ false
not_above k [] s h a = refl
not_above k (j ∷ ks) s h a = or_from (j == s) (list_any (λ j. j == s) ks) (ne_eqb j s (λ e. let l = a.0 in omega arith)) (not_above k ks s h a.1)

skip : {X : Type 0} (G : ℕ → List X) (m n a N : ℕ) → N ≡ m + n → ((s : ℕ) → a ≤ s → s < a + m → G s ≡ []) → flat_map G (range_with_len a N) ≡ flat_map G (range_with_len (a + m) n)
skip G zero n a N e h = ap (λ k. flat_map G (range_with_len a k)) (omega arith) ∙ ap (λ k. flat_map G (range_with_len k n)) (omega arith)
skip G (suc m) n a N e h =
    let more : N ≡ suc (m + n) = omega arith in
    ap (λ k. flat_map G (range_with_len a k)) more
    ∙ ap (λ xs. xs ++ flat_map G (range_with_len (a + 1) (m + n))) (h a (omega arith) (omega arith))
    ∙ skip G m n (a + 1) (m + n) refl (λ s l u. h s (omega arith) (omega arith))
    ∙ ap (λ k. flat_map G (range_with_len k n)) (omega arith)

abbrev pub Edges : {X : Type 0} → (ℕ → List X) → ℕ → ℕ → List ℕ → Type 0
Edges G a n ks = Each (λ k. ((k < a) → G k ≡ []) × ((a + n ≤ k) → G k ≡ [])) ks

later_edges : {X : Type 0} (G : ℕ → List X) (a n k m : ℕ) → k + 1 + m ≡ a + n → (ks : List ℕ) → Above k ks → Edges G a n ks → Edges G (k + 1) m ks
later_edges G a n k m e [] above edge = tt
later_edges G a n k m e (j ∷ ks) above edge = (((λ h. let l = above.0 in absurd (omega arith)), (λ h. edge.0.1 (omega arith))), later_edges G a n k m e ks above.1 edge.1)

rising_step : {X : Type 0} (G : ℕ → List X) (k : ℕ) (ks : List ℕ) (a n : ℕ) → Rising (k ∷ ks) → ((s : ℕ) → a ≤ s → list_any (λ j. j == s) (k ∷ ks) ≡ false → G s ≡ []) → Edges G a n (k ∷ ks)
    → (((s : ℕ) → a ≤ s → list_any (λ j. j == s) ks ≡ false → G s ≡ []) → flat_map G (range_with_len a n) ≡ flat_map G ks)
    → ((m : ℕ) → ((s : ℕ) → k + 1 ≤ s → list_any (λ j. j == s) ks ≡ false → G s ≡ []) → Edges G (k + 1) m ks → flat_map G (range_with_len (k + 1) m) ≡ flat_map G ks)
    → flat_map G (range_with_len a n) ≡ G k ++ flat_map G ks
rising_step {X} G k ks a n r none edge same later = ⊎_elim (λ h. ⊎_elim (λ l. within h l) above (cases_lt k (a + n))) below (le_or k a)
  where
    le_or : (k a : ℕ) → (a ≤ k) ⊎ (k < a)
    le_or k a = ⊎_elim (λ h. inr h) (λ h. inl h) (cases_lt k a)

    skipped : G k ≡ [] → flat_map G (range_with_len a n) ≡ G k ++ flat_map G ks
    skipped e =
        same (λ s h f. ⊎_elim (λ eq. ap G (sym eq) ∙ e) (λ apart. none s h (or_from (k == s) (list_any (λ j. j == s) ks) (ne_eqb k s apart) f)) (cases_eq k s))
        ∙ sym (ap (λ xs. xs ++ flat_map G ks) e)

    below : k < a → flat_map G (range_with_len a n) ≡ G k ++ flat_map G ks
    below h = skipped (edge.0.0 h)

    above : a + n ≤ k → flat_map G (range_with_len a n) ≡ G k ++ flat_map G ks
    above h = skipped (edge.0.1 h)

    within : a ≤ k → k < a + n → flat_map G (range_with_len a n) ≡ G k ++ flat_map G ks
    within h l =
        let m : ℕ = a + n - (k + 1) in
        let here : a + (k - a) ≡ k = omega arith in
        skip G (k - a) (suc (a + n - (k + 1))) a n (omega arith)
        (λ s low high. none s low (or_from (k == s) (list_any (λ j. j == s) ks) (ne_eqb k s (λ e. omega arith)) (not_above k ks s (omega arith) r.0)))
        ∙ ap (λ i. flat_map G (range_with_len i (suc (a + n - (k + 1))))) here
        ∙ ap (λ xs. G k ++ xs) (later (a + n - (k + 1))
        (λ s low f. none s (omega arith) (or_from (k == s) (list_any (λ j. j == s) ks) (ne_eqb k s (λ e. omega arith)) f))
        (later_edges G a n k (a + n - (k + 1)) (omega arith) ks r.0 edge.1))

pub flat_rising : {X : Type 0} (G : ℕ → List X) (ks : List ℕ) (a n : ℕ) → Rising ks → ((s : ℕ) → a ≤ s → list_any (λ k. k == s) ks ≡ false → G s ≡ [])
    → Edges G a n ks → flat_map G (range_with_len a n) ≡ flat_map G ks
flat_rising G [] a n r none edge = flat_nil G n a (λ s h. none s h refl)
flat_rising G (k ∷ ks) a n r none edge = rising_step G k ks a n r none edge (λ f. flat_rising G ks a n r.1 f edge.1) (λ m f e. flat_rising G ks (k + 1) m r.1 f e)

pub edges_from : {X : Type 0} (G : ℕ → List X) (a n : ℕ) → ((s : ℕ) → (s < a) → G s ≡ []) → ((s : ℕ) → a + n ≤ s → G s ≡ []) → (ks : List ℕ) → Edges G a n ks
edges_from G a n low high [] = tt
edges_from G a n low high (k ∷ ks) = ((low k, high k), edges_from G a n low high ks)

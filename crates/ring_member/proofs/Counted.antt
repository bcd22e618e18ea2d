-- How many slots are kept.
use Rattle.std.proofs.Common.{◌≡◌, ℕ, ◌+◌, ◌-◌, ◌≤◌, Bool, true, false, cond, List, [], ◌∷◌, ◌++◌, length, flat_map, count_by, Option, Some, is_some, nat_cmp, refl, sym, ap, ap₂, ◌∙◌, arith}
use Rattle.std.specs.List.{range_with_len, AllByRecursion as Each}
use Rattle.std.specs.List.Sorted.{IsStrictlySortedBy}
use Rattle.std.specs.Map.{lookup, keys_of}
use Rattle.std.specs.BTreeMap.{is_at}
use Rattle.std.proofs.lemmas.Bool.Decides.{nat_tests}
use Rattle.std.proofs.lemmas.List.Sums.{sum_by-cons, count_by-le-length}
use Rattle.std.proofs.lemmas.List.FromFn.{length-range_with_len}
use Rattle.ring_message.specs.Grammar.{IsSlot}
use Rattle.ring_model.specs.Messages.{Ring, Letter}
use Rattle.ring_model.proofs.History.{Each-weaker}
use Rattle.ring_member.specs.Views.{View}
use Rattle.ring_member.specs.Standing.{has_letter, Stands}
use Rattle.ring_member.specs.Members.{slots_with_letters}
use Rattle.member_orders.proofs.Ranges.{skip, flat_same}
use Rattle.ring_member.proofs.Rising.{not_there, rising, flat_rising, edges_from}

-- a place where a test passes, once
abbrev one_at : (ℕ → Bool) → ℕ → List ℕ
one_at p s = cond (p s) (s ∷ []) []

passes : (p : ℕ → Bool) (xs : List ℕ) → length (flat_map (one_at p) xs) ≡ count_by p xs
passes p [] = refl
passes p (x ∷ xs) = each (p x) (passes p xs) ∙ sym (sum_by-cons (λ s. cond (p s) 1 0) x xs)
  where
    each : (b : Bool) → length (flat_map (one_at p) xs) ≡ count_by p xs → length (cond b (x ∷ []) [] ++ flat_map (one_at p) xs) ≡ cond b 1 0 + count_by p xs
    each true e = omega (arith, e)
    each false e = omega (arith, e)

all_pass : (p : ℕ → Bool) (ks : List ℕ) → Each (λ k. p k ≡ true) ks → flat_map (one_at p) ks ≡ ks
all_pass p [] h = refl
all_pass p (k ∷ ks) h = ap₂ (λ xs ys. xs ++ ys) (ap (λ b. cond b (k ∷ []) []) h.0) (all_pass p ks h.1)

abbrev is_kept : {X : Type 0} → List (ℕ × X) → ℕ → Bool
is_kept es s = is_some (lookup (is_at (nat_cmp s)) es)

there : {X : Type 0} (es : List (ℕ × X)) → Each (λ k. is_kept es k ≡ true) (keys_of es)
there [] = tt
there (x ∷ es) = (ap (λ b. is_some (cond b (Some x.1) (lookup (is_at (nat_cmp x.0)) es))) (same x.0), Each-weaker (λ k. is_kept es k ≡ true) (λ k. is_kept (x ∷ es) k ≡ true) (λ k h. more x.1 (is_at (nat_cmp k) x.0) (lookup (is_at (nat_cmp k)) es) h) (keys_of es) (there es))
  where
    same : (k : ℕ) → is_at (nat_cmp k) k ≡ true
    same k = grind (arith, nat_tests)

    more : {X : Type 0} (y : X) (b : Bool) (o : Option X) → is_some o ≡ true → is_some (cond b (Some y) o) ≡ true
    more y true o h = refl
    more y false o h = h

length-keys : {X : Type 0} (es : List (ℕ × X)) → length (keys_of es) ≡ length es
length-keys [] = refl
length-keys (x ∷ es) = omega (arith, length-keys es)

off : (p : ℕ → Bool) (s : ℕ) → p s ≡ false → one_at p s ≡ []
off p s e = ap (λ b. cond b (s ∷ []) []) e

not_slot : (p : ℕ → Bool) → ((s : ℕ) → p s ≡ true → IsSlot s) → (s : ℕ) → (IsSlot s → ⊥) → p s ≡ false
not_slot p slots s not = elim (p s) as (λ b. p s ≡ b → b ≡ false) [ true ↦ λ e. absurd (not (slots s e)) | false ↦ λ e. refl ] refl

-- as many as the slots that have something
kept_in_range : {X : Type 0} (es : List (ℕ × X)) → IsStrictlySortedBy nat_cmp (keys_of es) → ((s : ℕ) → is_kept es s ≡ true → IsSlot s) → length es ≡ length (flat_map (one_at (is_kept es)) (range_with_len 1 65536))
kept_in_range es sorted slots =
    let p = is_kept es in
    let ks = keys_of es in
    sym (length-keys es) ∙ ap length (sym (all_pass p ks (there es))
    ∙ sym (flat_rising (one_at p) ks 1 65536 (rising ks sorted) (λ s h e. off p s (ap is_some (not_there es s e)))
    (edges_from (one_at p) 1 65536 (λ s h. off p s (not_slot p slots s (λ k. omega (arith, k.0, h)))) (λ s h. off p s (not_slot p slots s (λ k. omega (arith, k.1, h)))) ks)))

at_most : (p : ℕ → Bool) (n k : ℕ) → k ≡ length (flat_map (one_at p) (range_with_len 1 n)) → k ≤ n
at_most p n k e =
    let count = passes p (range_with_len 1 n) in
    let most = count_by-le-length p (range_with_len 1 n) in
    let long = length-range_with_len 1 n in
    omega (arith, e, count, most, long)

pub kept_fits : {X : Type 0} (es : List (ℕ × X)) → IsStrictlySortedBy nat_cmp (keys_of es) → ((s : ℕ) → is_kept es s ≡ true → IsSlot s) → length es ≤ 65536
kept_fits es sorted slots = at_most (is_kept es) 65536 (length es) (kept_in_range es sorted slots)

-- of slots above the executed ones, those that a letter was for
pub kept_are : (g : Ring) (f : ℕ) (v : View) (got : List Letter) (es : List (ℕ × Option (List ℕ))) → Stands g f v got → ((s : ℕ) → v.slot s ≡ lookup (is_at (nat_cmp s)) es) → IsStrictlySortedBy nat_cmp (keys_of es)
    → ((s : ℕ) → is_kept es s ≡ true → IsSlot s) → length v.done ≤ 65536 → length es ≡ slots_with_letters g got
kept_are g f v got es st same sorted slots within =
    let p = is_kept es in
    let n = length v.done in
    kept_in_range es sorted slots
    ∙ ap length (skip (one_at p) n (65536 - n) 1 65536 (omega arith) (λ s low high. off p s (ap is_some (sym (same s) ∙ st.live.dropped s (omega arith))))
    ∙ flat_same (one_at p) (one_at (has_letter got)) (65536 - n) (1 + n) (λ s h. ap (λ b. cond b (s ∷ []) []) (sym (ap is_some (same s)) ∙ st.live.kept s (omega arith))))
    ∙ passes (has_letter got) (range_with_len (1 + n) (65536 - n))
    ∙ ap (λ k. count_by (has_letter got) (range_with_len k (65536 - n))) (omega arith)
    ∙ ap (λ xs. count_by (has_letter got) (range_with_len (length xs + 1) (65536 - length xs))) st.ran

-- Counts over the first so many members.
use Rattle.std.proofs.Common.{◌≡◌, ℕ, zero, suc, ◌+◌, ◌<◌, Bool, cond, List, [], ◌∷◌, ◌++◌, Option, length, slice_index_or, refl, sym, ap, ◌∙◌, arith}
use Rattle.std.specs.List.{range_with_len, count_by}
use Rattle.std.proofs.lemmas.List.Sums.{sum_by-append, sum_by-cons}
use Rattle.ring_model.specs.History.{is_name}
use Rattle.client_core.specs.Replies.{count_at}

range_on : (a n : ℕ) → range_with_len a (suc n) ≡ range_with_len a n ++ (a + n) ∷ []
range_on a zero = ap (λ k. k ∷ []) (let e : a ≡ a + 0 = omega arith in e)
range_on a (suc n) = ap (λ ks. a ∷ ks) (range_on (a + 1) n ∙ ap (λ k. range_with_len (a + 1) n ++ k ∷ []) (let e : a + 1 + n ≡ a + suc n = omega arith in e))

range_more : (n : ℕ) → range_with_len 0 (n + 1) ≡ range_with_len 0 n ++ n ∷ []
range_more n = ap (range_with_len 0) (let e : n + 1 ≡ suc n = omega arith in e) ∙ range_on 0 n ∙ ap (λ k. range_with_len 0 n ++ k ∷ []) (let e : 0 + n ≡ n = omega arith in e)

-- one member more
pub count_more : (n : ℕ) (first : ℕ → Option (List ℕ)) (string : List ℕ) → count_at (n + 1) first string ≡ count_at n first string + cond (is_name string (first n)) 1 0
count_more n first string =
    let ranged : count_at (n + 1) first string ≡ count_by (λ j. is_name string (first j)) (range_with_len 0 n ++ n ∷ []) = ap (count_by (λ j. is_name string (first j))) (range_more n) in
    let parts : count_by (λ j. is_name string (first j)) (range_with_len 0 n ++ n ∷ []) ≡ count_at n first string + count_by (λ j. is_name string (first j)) (n ∷ [])
    = sum_by-append (λ j. cond (is_name string (first j)) 1 0) (range_with_len 0 n) (n ∷ []) in
    let last : count_by (λ j. is_name string (first j)) (n ∷ []) ≡ cond (is_name string (first n)) 1 0 + 0 = sum_by-cons (λ j. cond (is_name string (first j)) 1 0) n [] in
    omega (arith, ranged, parts, last)

pub count_next : (n : ℕ) (first : ℕ → Option (List ℕ)) (string : List ℕ) (count now : ℕ) (b : Bool) → count ≡ count_at n first string → is_name string (first n) ≡ b → now ≡ count + cond b 1 0
    → now ≡ count_at (n + 1) first string
count_next n first string count now b before is more =
    more ∙ ap (λ c. c + cond b 1 0) before ∙ ap (λ t. count_at n first string + cond t 1 0) (sym is) ∙ sym (count_more n first string)

-- what stands at a place does not depend on what would be there if there were none
pub index_same : {X : Type 0} (xs : List X) (k : ℕ) (d e : X) → k < length xs → slice_index_or xs k d ≡ slice_index_or xs k e
index_same [] k d e low = absurd (omega (arith, low))
index_same (x ∷ xs) zero d e low = refl
index_same (x ∷ xs) (suc k) d e low = index_same xs k d e (omega (arith, low))

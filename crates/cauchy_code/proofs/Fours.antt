-- Sums of parts, one or four at a time, as the program keeps them.
use Rattle.std.proofs.Common.{◌≡◌, ℕ, zero, suc, ◌+◌, ◌*◌, ◌<◌, ◌≤◌, Bool, true, false, ◌&&◌, ltb, List, [], ◌∷◌, ◌++◌, take, map, replicate, length, get_or, refl, sym, ap, ◌∙◌, arith, Vec, Global}
use Rattle.std.specs.List.{range_with_len}
use Rattle.std.proofs.lemmas.List.{length-map, take_all}
use Rattle.std.proofs.lemmas.List.FromFn.{fill_by_all}
use Rattle.std.proofs.lemmas.Bool.{ltb-false, le-ltb}
use Rattle.gf_lanes.specs.Sums.{part_sum}
use Rattle.cauchy_code.specs.Code.{Parameters, is_part, dot, cauchy_row, row, column, part_length}
use Rattle.cauchy_code.specs.Table.{IsWide, given_part, given_parts}
use Rattle.cauchy_code.proofs.Columns.{sum_to_all}
use Rattle.cauchy_code.proofs.Steps.{map_read, wide_at, whole_front}
use Rattle.cauchy_code.proofs.Blocks.{concat_step}
use Rattle.cauchy_code.proofs.AnyRows.{sum_byte}

-- ---- one sum
-- the bytes of a sum that a loop wrote in place
pub sum_made : (now rest fs parts : List ℕ) (n l m p : ℕ) → length fs ≡ m → l ≡ p → length now ≡ p → n ≡ p
    → ((j : ℕ) → j < length now → get_or now j 0 ≡ part_sum fs parts l j) → take n (now ++ rest) ≡ given_part m p parts fs
unfolding given_part column
sum_made now rest fs parts n l m p many el long en each =
    whole_front now rest n (en ∙ sym long)
    ∙ fill_by_all (λ j. dot fs (map (λ k. get_or parts (k * p + j) 0) (range_with_len 0 m))) now p 0 long
    (λ j lt.
    each j (omega (arith, long)) ∙ (λ i. part_sum fs parts (el i) j) ∙ sum_to_all fs (λ k. get_or parts (k * p + j) 0)
    ∙ (λ i. dot fs (map (λ k. get_or parts (k * p + j) 0) (range_with_len 0 (many i)))))

-- ---- a table's rows
pub row_read : (table : List (Vec ℕ Global)) (k : ℕ) (r : Vec ℕ Global) (d : List ℕ) → k < length table → r ≡ get_or table k r → d ≡ r.items → d ≡ get_or (map (λ w. w.items) table) k d
row_read table k r d lt is e = e ∙ sym (map_read (λ w. w.items) table k r d lt is)

pub row_wide : (table : List (Vec ℕ Global)) (m k : ℕ) (r : Vec ℕ Global) (d : List ℕ) → IsWide m (map (λ w. w.items) table) → k < length table → r ≡ get_or table k r → d ≡ r.items → length d ≡ m
row_wide table m k r d wide lt is e =
    ap length e ∙ ap length (sym (map_read (λ w. w.items) table k r [] lt is))
    ∙ wide_at m (map (λ w. w.items) table) k wide (omega (arith, length-map table (λ w. w.items)))

-- one part more
pub part_added : (table : List (Vec ℕ Global)) (rows : List ℕ) (m p k n : ℕ) (d old new piece : List ℕ) → k < length table → n ≡ k + 1 → d ≡ get_or (map (λ w. w.items) table) k d
    → old ≡ given_parts m p rows (take k (map (λ w. w.items) table)) → new ≡ old ++ piece → piece ≡ given_part m p rows d
    → new ≡ given_parts m p rows (take n (map (λ w. w.items) table))
part_added table rows m p k n d old new piece lt next is before joined this =
    concat_step (given_part m p rows) (map (λ w. w.items) table) k d old new piece (omega (arith, length-map table (λ w. w.items))) is before joined this
    ∙ ap (λ n. given_parts m p rows (take n (map (λ w. w.items) table))) (sym next)

-- ---- a block with zeros after it
zero_at : (n k : ℕ) → get_or {A = ℕ} (replicate n 0) k 0 ≡ 0
zero_at zero k = refl
zero_at (suc n) zero = refl
zero_at (suc n) (suc k) = zero_at n k

zeros_after : (xs : List ℕ) (n k : ℕ) → get_or (xs ++ replicate n 0) k 0 ≡ get_or xs k 0
zeros_after [] n k = zero_at n k
zeros_after (x ∷ xs) n zero = refl
zeros_after (x ∷ xs) n (suc k) = zeros_after xs n k

pub padded_at : (block old new : List ℕ) (size n : ℕ) → old ≡ block → length block ≤ size → new ≡ take size old ++ replicate n 0 → (k : ℕ) → get_or new k 0 ≡ get_or block k 0
padded_at block old new size n is room e k =
    ap (λ xs. get_or xs k 0) (e ∙ (λ i. take size (is i) ++ replicate n 0) ∙ ap (λ xs. xs ++ replicate n 0) (take_all size block room)) ∙ zeros_after block n k

-- ---- rows of a code
later_sum : (s : Bool) (i j m : ℕ) → i ≤ j → (s && ltb i m) ≡ false → (s && ltb j m) ≡ false
later_sum false i j m le e = refl
later_sum true i j m le e = let far = ltb-false i m e in le-ltb j m (omega arith)

-- the rows after a sum are sums
pub sums_after : (code : Parameters) (i j : ℕ) → i ≤ j → is_part code i ≡ false → is_part code j ≡ false
unfolding is_part
sums_after code i j le e = later_sum code.systematic i j code.m le e

pub sum_is_row : (code : Parameters) (block parts points piece : List ℕ) (p i : ℕ) → is_part code i ≡ false → ((q : ℕ) → get_or parts q 0 ≡ get_or block q 0)
    → points ≡ range_with_len code.n code.m → p ≡ part_length code.m (length block) → piece ≡ given_part code.m p parts (cauchy_row i points) → piece ≡ row code block i
unfolding row given_part column
sum_is_row code block parts points piece p i ne bytes ept ep e =
    let m = code.m in
    let q = part_length m (length block) in
    e
    ∙ (λ t. map (λ j. dot (cauchy_row i (ept t)) (map (λ k. bytes (k * p + j) t) (range_with_len 0 m))) (range_with_len 0 p))
    ∙ (λ t. map (λ j. dot (cauchy_row i (range_with_len code.n m)) (map (λ k. get_or block (k * ep t + j) 0) (range_with_len 0 m))) (range_with_len 0 (ep t)))
    ∙ (λ t. map (λ j. sym (sum_byte code i (map (λ k. get_or block (k * q + j) 0) (range_with_len 0 m)) ne) t) (range_with_len 0 q))

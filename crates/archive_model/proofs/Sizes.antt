-- The strings that a version within the limits lists are few and short.
use Rattle.std.proofs.Common.{◌≡◌, ◌≤◌, ◌<◌, ◌^◌, ◌+◌, ◌-◌, ◌*◌, ℕ, zero, suc, Bool, true, false, IsTrue, List, [], ◌∷◌, Option, Some, map, length, take, drop, nat_le, nat_lt, if◌then◌else◌, refl, ap, ◌∙◌, length-append, append-nil, arith}
use Rattle.std.specs.List.{list_all, flat_map, range_with_len}
use Rattle.std.specs.Fork.{slice_chunk}
use Rattle.std.proofs.lemmas.List.{length-map, length-take}
use Rattle.std.proofs.lemmas.List.Folds.{list_all-append, list_all-map}
use Rattle.std.proofs.lemmas.Nat.{div_below}
use Rattle.tree_format.specs.Strings.{leaf_string, inner_string, root_string, height_over, piece_count}
use Rattle.object_model.specs.Pieces.{pieces}
use Rattle.object_model.specs.Trees.{leaf_row, row_above, rows_from, height_of, strings_of, root_of, version_strings, stands_in, first_times, strings_so_far, new_strings}
use Rattle.object_model.specs.Updates.{largest}
use Rattle.object_model.proofs.PieceLemmas.{count_pieces}
use Rattle.object_model.proofs.RootLemmas.{is_root}
use Rattle.manifest.specs.Decoding.{manifest_in}
use Rattle.manifest.proofs.Parts.{and_parts, both, is_le, is_lt}
use Rattle.manifest.proofs.Decoded.{written_again}
use Rattle.archive_model.specs.Listings.{code_for, manifest_listing, manifest_for}
use Rattle.archive_model.specs.Statements.{is_listable, IsCode}
use Rattle.archive_model.proofs.Fitting.{manifest_fits}

listable : (string : List ℕ) → 1 ≤ length string → length string < 2 ^ 32 → IsTrue (is_listable string)
listable string some few = both (nat_le 1 (length string)) (nat_lt (length string) (2 ^ 32)) (is_le 1 (length string) some) (is_lt (length string) (2 ^ 32) few)

all_map : {X Y : Type 0} (p : Y → Bool) (f : X → Y) (xs : List X) → ((x : X) → IsTrue (p (f x))) → IsTrue (list_all p (map f xs))
all_map p f [] each = refl
all_map p f (x ∷ xs) each = both (p (f x)) (list_all p (map f xs)) (each x) (all_map p f xs each)

-- ---- leaves
leaves_listable : (block : ℕ) (content : List ℕ) → block ≤ 8192 → IsTrue (list_all is_listable (leaf_row block content))
unfolding pieces
leaves_listable block content small =
    list_all-map is_listable leaf_string (pieces block content)
    ∙ all_map (λ piece. is_listable (leaf_string piece)) (slice_chunk content block) (range_with_len 0 (piece_count block (length content)))
    (λ k. listable (leaf_string (slice_chunk content block k)) (omega arith) (omega (arith, length-take block (drop (k * block) content))))

-- ---- inner strings
taken_short : (h : List ℕ → List ℕ) (row : List (List ℕ)) (n : ℕ) → ((s : List ℕ) → length (h s) ≡ 20) → length (flat_map (λ name. name) (take n (map h row))) ≤ 20 * n
taken_short h row zero long = omega arith
taken_short h [] (suc n) long = omega arith
taken_short h (s ∷ row) (suc n) long = omega (arith, length-append (h s) (flat_map (λ name. name) (take n (map h row))), long s, taken_short h row n long)

dropped_short : (h : List ℕ → List ℕ) (row : List (List ℕ)) (k n : ℕ) → ((s : List ℕ) → length (h s) ≡ 20) → length (flat_map (λ name. name) (take n (drop k (map h row)))) ≤ 20 * n
dropped_short h row zero n long = taken_short h row n long
dropped_short h [] (suc k) n long = taken_short h [] n long
dropped_short h (s ∷ row) (suc k) n long = dropped_short h row k n long

above_listable : (h : List ℕ → List ℕ) (row : List (List ℕ)) → ((s : List ℕ) → length (h s) ≡ 20) → IsTrue (list_all is_listable (row_above h row))
unfolding pieces
above_listable h row long =
    list_all-map is_listable inner_string (pieces 64 (map h row))
    ∙ all_map (λ names. is_listable (inner_string names)) (slice_chunk (map h row) 64) (range_with_len 0 (piece_count 64 (length (map h row))))
    (λ k. listable (inner_string (slice_chunk (map h row) 64 k)) (omega arith) (omega (arith, dropped_short h row (k * 64) 64 long)))

rows_listable : (h : List ℕ → List ℕ) (levels : ℕ) (row : List (List ℕ)) → ((s : List ℕ) → length (h s) ≡ 20) → IsTrue (list_all is_listable row) → IsTrue (list_all is_listable (flat_map (λ r. r) (rows_from h levels row)))
rows_listable h zero row long all = ap (list_all is_listable) (append-nil row) ∙ all
rows_listable h (suc levels) row long all =
    list_all-append is_listable row (flat_map (λ r. r) (rows_from h levels (row_above h row)))
    ∙ both (list_all is_listable row) (list_all is_listable (flat_map (λ r. r) (rows_from h levels (row_above h row)))) all (rows_listable h levels (row_above h row) long (above_listable h row long))

-- ---- how many
few_pieces : {X : Type 0} (size : ℕ) (xs : List X) → 0 < size → length (pieces size xs) ≤ length xs
few_pieces size xs p =
    let more : length xs ≤ length xs * size = at_least (length xs) size p in
    omega (arith, count_pieces size xs, div_below (length xs + size - 1) size (length xs + 1) p (omega arith)) where
      at_least : (k m : ℕ) → 0 < m → k ≤ k * m
      at_least zero m p = omega arith
      at_least (suc k) m p = omega (arith, at_least k m p)

few_rows : (h : List ℕ → List ℕ) (levels : ℕ) (row : List (List ℕ)) → length row ≤ 1048576 → length (flat_map (λ r. r) (rows_from h levels row)) ≤ levels * 1048576 + 1048576
few_rows h zero row few = omega (arith, length-append row [])
few_rows h (suc levels) row few =
    let above : length (row_above h row) ≤ length row = omega (arith, length-map (pieces 64 (map h row)) inner_string, few_pieces 64 (map h row) (omega arith), length-map row h) in
    omega (arith, length-append row (flat_map (λ r. r) (rows_from h levels (row_above h row))), few_rows h levels (row_above h row) (omega arith))

three_levels : (a b c : Bool) → (if a then 0 else (if b then 1 else (if c then 2 else 3))) ≤ 3
three_levels true b c = omega arith
three_levels false true c = omega arith
three_levels false false true = omega arith
three_levels false false false = omega arith

low : (leaves : ℕ) → height_over leaves ≤ 3
low leaves = three_levels (nat_le leaves 1) (nat_le leaves 64) (nat_le leaves 4096)

few_strings : (h : List ℕ → List ℕ) (block : ℕ) (content : List ℕ) (older : List (List ℕ)) → 0 < block → length content ≤ largest → length (version_strings h block content older) < 2 ^ 32
few_strings h block content older p small =
    let leaves : length (leaf_row block content) ≤ 1048576 = omega (arith, length-map (pieces block content) leaf_string, few_pieces block content p) in
    omega (arith, length-append (strings_of h block content) (root_string (root_of h block content older) ∷ []), few_rows h (height_of block content) (leaf_row block content) leaves, low (length (leaf_row block content)))

-- ---- the listed ones
one_of_two : {X : Type 0} (P : X → Type 0) (b : Bool) (x y : X) → P x → P y → P (if b then x else y)
one_of_two P true x y p q = p
one_of_two P false x y p q = q

first_listable : (known strings : List (List ℕ)) → IsTrue (list_all is_listable strings) → IsTrue (list_all is_listable (first_times known strings))
first_listable known [] all = refl
first_listable known (string ∷ strings) all =
    let parts = and_parts (is_listable string) (list_all is_listable strings) all in
    one_of_two (λ listed. IsTrue (list_all is_listable listed)) (stands_in string known) (first_times known strings) (string ∷ first_times (string ∷ known) strings)
    (first_listable known strings parts.1) (both (is_listable string) (list_all is_listable (first_times (string ∷ known) strings)) parts.0 (first_listable (string ∷ known) strings parts.1))

few_first : (known strings : List (List ℕ)) → length (first_times known strings) ≤ length strings
few_first known [] = omega arith
few_first known (string ∷ strings) =
    one_of_two (λ listed. length listed ≤ length (string ∷ strings)) (stands_in string known) (first_times known strings) (string ∷ first_times (string ∷ known) strings)
    (omega (arith, few_first known strings)) (omega (arith, few_first (string ∷ known) strings))

strings_listable : (h : List ℕ → List ℕ) (block : ℕ) (content : List ℕ) (older : List (List ℕ)) → ((s : List ℕ) → length (h s) ≡ 20)
    → 64 ≤ block → block ≤ 8192 → length content ≤ largest → 1 ≤ length older → length older < 2 ^ 32 → IsTrue (list_all is_listable (version_strings h block content older))
strings_listable h block content older long least most small first few =
    let root = root_of h block content older in
    let is = is_root h block content older long least most small few (λ e. absurd (omega (arith, ap length e))) in
    let one : IsTrue (is_listable (root_string root)) = listable (root_string root) (omega arith) (omega (arith, length-append root.top root.previous, is.top, is.previous)) in
    list_all-append is_listable (strings_of h block content) (root_string root ∷ [])
    ∙ both (list_all is_listable (strings_of h block content)) (list_all is_listable (root_string root ∷ []))
    (rows_listable h (height_of block content) (leaf_row block content) long (leaves_listable block content most)) (both (is_listable (root_string root)) true one refl)

pub manifest_is_read : (h : List ℕ → List ℕ) (block m n : ℕ) (newer : Option ℕ) (object content : List ℕ) (older : List (List ℕ)) → ((string : List ℕ) → length (h string) ≡ 20)
    → 64 ≤ block → block ≤ 8192 → IsCode (code_for m n newer (length older)) → length object ≡ 20 → length content ≤ largest → 1 ≤ length older → length older < 2 ^ 32
    → manifest_in (manifest_for h block m n newer object (content ∷ older))
    ≡ Some (manifest_listing h (code_for m n newer (length older)) (length older) object (new_strings h block content older))
manifest_is_read h block m n newer object content older long least most code name small first few =
    let known = strings_so_far h block older in
    let strings = version_strings h block content older in
    let total : length strings < 2 ^ 32 = few_strings h block content older (omega arith) small in
    let count : length (first_times known strings) < 2 ^ 32 = omega (arith, few_first known strings) in
    written_again (manifest_listing h (code_for m n newer (length older)) (length older) object (new_strings h block content older))
    (manifest_fits h (code_for m n newer (length older)) (length older) object (new_strings h block content older) long code first few name count
    (first_listable known strings (strings_listable h block content older long least most small first few)))

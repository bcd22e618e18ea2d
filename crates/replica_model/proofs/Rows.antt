-- The rows of strings of a content.
use Rattle.std.proofs.Common.{◌≡◌, ◌<◌, ◌≤◌, ◌+◌, ◌-◌, ◌*◌, min, ℕ, zero, suc, Bool, true, false, List, [], ◌∷◌, option_map, map, length, take, drop, get_or, nat_le, Contains, if◌then◌else◌, refl, ap, sym, ◌∙◌, append-nil, arith}
use Rattle.std.proofs.lemmas.List.{length-map, length-drop, drop_more, take_min, get_or-map}
use Rattle.std.proofs.lemmas.List.FromFn.{length-range_with_len}
use Rattle.std.proofs.lemmas.List.Elements.{Contains-append_left, Contains-append_right, Contains-get_or}
use Rattle.std.proofs.lemmas.List.Sums.{fold-append}
use Rattle.std.proofs.lemmas.Option.{slice_get-map, unwrap_or-slice_get}
use Rattle.std.proofs.lemmas.Bool.{leb-true}
use Rattle.std.proofs.lemmas.Nat.{le-div, div_below}
use Rattle.std.specs.Option.{unwrap_or}
use Rattle.std.specs.List.{AllByRecursion, flat_map, fold, range_with_len}
use Rattle.std.specs.Fork.{slice_chunk}
use Rattle.tree_format.specs.Strings.{leaf_string, inner_string, piece_count, height_over}
use Rattle.tree_format.specs.Grammar.{IsName}
use Rattle.object_model.specs.Pieces.{pieces}
use Rattle.object_model.specs.Trees.{leaf_row, row_above, rows_from}
use Rattle.object_model.proofs.PieceLemmas.{count_pieces, piece_at}
use Rattle.replica_model.specs.Walks.{below}
use Rattle.replica_model.specs.Trees.{row_at, string_at, places_below}
use Rattle.replica_model.proofs.Standing.{below_leaf, below_inner}

inside_row : (count place : ℕ) → place < piece_count 64 count → place * 64 < count
inside_row count place l = omega (arith, l)

module _ (h : List ℕ → List ℕ) where
  -- the first row is the one that the others stand over
  pub first_row : (levels : ℕ) (row : List (List ℕ)) → row_at (rows_from h levels row) 0 ≡ row
  first_row zero row = refl
  first_row (suc levels) row = refl

  -- each row but the first is the one over the row before it
  pub next_row : (levels k : ℕ) (row : List (List ℕ)) → k < levels → row_at (rows_from h levels row) (suc k) ≡ row_above h (row_at (rows_from h levels row) k)
  next_row zero k row l = absurd (omega arith)
  next_row (suc levels) zero row l = first_row levels (row_above h row)
  next_row (suc levels) (suc k) row l = next_row levels k (row_above h row) (omega arith)

  long_row : (row : List (List ℕ)) → length (row_above h row) ≡ piece_count 64 (length row)
  long_row row = length-map (pieces 64 (map h row)) inner_string ∙ count_pieces 64 (map h row) ∙ ap (piece_count 64) (length-map row h)

  -- the names of the strings below a place
  chunk : List (List ℕ) → ℕ → List (List ℕ)
  chunk row place = slice_chunk (map h row) 64 place

  at_place : (row : List (List ℕ)) (place : ℕ) → place * 64 < length row → get_or (row_above h row) place [] ≡ inner_string (chunk row place)
  unfolding chunk
  at_place row place l =
      sym (unwrap_or-slice_get (row_above h row) place [])
      ∙ ap (λ o. unwrap_or o []) (slice_get-map inner_string (pieces 64 (map h row)) place)
      ∙ ap (λ o. unwrap_or (option_map inner_string o) []) (piece_at 64 (map h row) place (omega arith) (let e = length-map row h in omega (arith, e, l)))

  in_range : (row : List (List ℕ)) (a n : ℕ) → a + n ≤ length row → map (λ p. h (get_or row p [])) (range_with_len a n) ≡ take n (drop a (map h row))
  in_range row a zero l = refl
  in_range row a (suc n) l =
      let long = length-map row h in
      ap (λ (ns : List (List ℕ)). h (get_or row a []) ∷ ns) (in_range row (a + 1) n (omega (arith, l)))
      ∙ ap (λ (x : List ℕ). x ∷ take n (drop (a + 1) (map h row))) (sym (get_or-map h row a [] [] (omega (arith, l))))
      ∙ sym (ap (take (suc n)) (drop_more (map h row) a [] (omega (arith, long, l))))

  chunk_is : (row : List (List ℕ)) (place : ℕ) → place * 64 < length row → chunk row place ≡ map (λ p. h (get_or row p [])) (places_below (length row) place)
  unfolding chunk
  chunk_is row place l =
      let long = length-map row h in
      let rest : length (drop (place * 64) (map h row)) ≡ length row - place * 64 = length-drop (place * 64) (map h row) ∙ ap (λ n. n - place * 64) long in
      sym (take_min 64 (drop (place * 64) (map h row)))
      ∙ ap (λ n. take (min 64 n) (drop (place * 64) (map h row))) rest
      ∙ sym (in_range row (place * 64) (min 64 (length row - place * 64)) (omega (arith, l)))

  long_names : ((s : List ℕ) → length (h s) ≡ 20) → (ps : List ℕ) (row : List (List ℕ)) → AllByRecursion IsName (map (λ p. h (get_or row p [])) ps)
  long_names long [] row = tt
  long_names long (p ∷ ps) row = (long (get_or row p []), long_names long ps row)

  count_below : (count place : ℕ) → length (places_below count place) ≡ min 64 (count - place * 64)
  count_below count place = length-range_with_len (place * 64) (min 64 (count - place * 64))

  -- below a string of a row above are those at the places below its own
  pub below_place : ((s : List ℕ) → length (h s) ≡ 20) → (row : List (List ℕ)) (place : ℕ) → place < length (row_above h row)
      → below (get_or (row_above h row) place []) ≡ map (λ p. h (get_or row p [])) (places_below (length row) place)
  below_place long row place l =
      let names : List (List ℕ) = map (λ p. h (get_or row p [])) (places_below (length row) place) in
      let many = long_row row in
      let inside : place * 64 < length row = inside_row (length row) place (omega (arith, many, l)) in
      let count : length names ≡ min 64 (length row - place * 64) = length-map (places_below (length row) place) (λ p. h (get_or row p [])) ∙ count_below (length row) place in
      ap below (at_place row place inside ∙ ap inner_string (chunk_is row place inside))
      ∙ below_inner names (record { some = omega (arith, count, inside); most = omega (arith, count); whole = long_names long (places_below (length row) place) row })

  -- a string of a row is one of all
  pub string_among : (levels k : ℕ) (row : List (List ℕ)) (place : ℕ) → k ≤ levels → place < length (row_at (rows_from h levels row) k)
      → Contains (flat_map (λ r. r) (rows_from h levels row)) (string_at (rows_from h levels row) k place)
  string_among zero zero row place l inside = Contains-append_left row [] (get_or row place []) (Contains-get_or row place [] inside)
  string_among zero (suc k) row place l inside = absurd (omega arith)
  string_among (suc levels) zero row place l inside =
      Contains-append_left row (flat_map (λ r. r) (rows_from h levels (row_above h row))) (get_or row place []) (Contains-get_or row place [] inside)
  string_among (suc levels) (suc k) row place l inside =
      Contains-append_right row (flat_map (λ r. r) (rows_from h levels (row_above h row))) (string_at (rows_from h levels (row_above h row)) k place)
      (string_among levels k (row_above h row) place (omega arith) inside)

  one_name : (row : List (List ℕ)) (from : List ℕ) → length row ≡ 1 → fold (λ name s. h s) from row ≡ h (get_or row 0 [])
  one_name [] from e = absurd (omega arith)
  one_name (x ∷ []) from e = refl
  one_name (x ∷ y ∷ xs) from e = absurd (omega arith)

  -- where the last row has one string, its name is the last of all
  pub top_name : (levels : ℕ) (row : List (List ℕ)) (from : List ℕ) → length (row_at (rows_from h levels row) levels) ≡ 1
      → fold (λ name s. h s) from (flat_map (λ r. r) (rows_from h levels row)) ≡ h (string_at (rows_from h levels row) levels 0)
  top_name zero row from e = ap (λ (strings : List (List ℕ)). fold (λ name s. h s) from strings) (append-nil row) ∙ one_name row from e
  top_name (suc levels) row from e =
      fold-append (λ name s. h s) from row (flat_map (λ r. r) (rows_from h levels (row_above h row)))
      ∙ top_name levels (row_above h row) (fold (λ name s. h s) from row) e

  one_of : (row : List (List ℕ)) → 1 ≤ length row → length row ≤ 64 → length (row_above h row) ≡ 1
  one_of row some few = let e = long_row row in omega (arith, e, some, few)

  few_of : (row : List (List ℕ)) (n : ℕ) → 1 ≤ length row → length row ≤ 64 * n → (1 ≤ length (row_above h row)) × (length (row_above h row) ≤ n)
  few_of row n some few = let e = long_row row in (omega (arith, e, some), omega (arith, e, few))

  -- as high as it is, so many leaves have one string at the top
  pub one_top : (row : List (List ℕ)) → 1 ≤ length row → length row ≤ 262144 → length (row_at (rows_from h (height_over (length row)) row) (height_over (length row))) ≡ 1
  one_top row some few = by (nat_le (length row) 1) (nat_le (length row) 64) (nat_le (length row) 4096) refl refl refl where
    by : (a b c : Bool) → nat_le (length row) 1 ≡ a → nat_le (length row) 64 ≡ b → nat_le (length row) 4096 ≡ c
        → length (row_at (rows_from h (if a then 0 else (if b then 1 else (if c then 2 else 3))) row) (if a then 0 else (if b then 1 else (if c then 2 else 3)))) ≡ 1
    by true b c p q s = let l = leb-true (length row) 1 p in omega (arith, l, some)
    by false true c p q s = one_of row some (leb-true (length row) 64 q)
    by false false true p q s =
        let l = leb-true (length row) 4096 s in
        let next = few_of row 64 some (omega (arith, l)) in
        one_of (row_above h row) next.0 next.1
    by false false false p q s =
        let next = few_of row 4096 some (omega (arith, few)) in
        let more = few_of (row_above h row) 64 next.0 (omega (arith, next.1)) in
        one_of (row_above h (row_above h row)) more.0 more.1

-- a tree has at most three levels of inner strings
pub low : (leaves : ℕ) → height_over leaves ≤ 3
low leaves = by (nat_le leaves 1) (nat_le leaves 64) (nat_le leaves 4096) where
  by : (a b c : Bool) → (if a then 0 else (if b then 1 else (if c then 2 else 3))) ≤ 3
  by true b c = omega arith
  by false true c = omega arith
  by false false true = omega arith
  by false false false = omega arith

-- how many leaves a content has
pub leaf_count : (block : ℕ) (content : List ℕ) → 64 ≤ block → 0 < length content → length content ≤ 1048576 → (1 ≤ length (leaf_row block content)) × (length (leaf_row block content) ≤ 262144)
leaf_count block content least some small =
    let count = length-map (pieces block content) leaf_string ∙ count_pieces block content in
    let low = le-div 1 (length content + block - 1) block (omega arith) (omega arith) in
    let high = div_below (length content + block - 1) block 262145 (omega arith) (omega arith) in
    (omega (arith, count, low), omega (arith, count, high))

-- nothing stands below a leaf
pub below_leaf_at : (block : ℕ) (content : List ℕ) (place : ℕ) → place < length (leaf_row block content) → below (get_or (leaf_row block content) place []) ≡ []
below_leaf_at block content place l =
    let e = length-map (pieces block content) leaf_string in
    ap below (get_or-map leaf_string (pieces block content) place [] [] (omega (arith, e, l))) ∙ below_leaf (get_or (pieces block content) place [])

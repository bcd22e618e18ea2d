-- The last row of a tree.
use Rattle.std.proofs.Common.{◌≡◌, ◌<◌, ◌≤◌, ℕ, zero, suc, List, [], ◌∷◌, ◌++◌, map, length, refl, ap, sym, ◌∙◌, subst, arith}
use Rattle.std.proofs.lemmas.List.{length-map}
use Rattle.tree_format.specs.Strings.{leaf_string, inner_string}
use Rattle.object_model.specs.Pieces.{pieces}
use Rattle.object_model.specs.Trees.{leaf_row, row_above, rows_from, height_of, rows_of}
use Rattle.object_model.specs.Updates.{largest}
use Rattle.object_model.proofs.PieceLemmas.{pieces_cons}
use Rattle.cow_tree.proofs.Bound.{top_row, one_top, few_leaves}
use Rattle.tree_laws.specs.Laws.{EndsInOneString}

-- some rows are lower ones and the top one
split : (h : List ℕ → List ℕ) (levels : ℕ) (row : List (List ℕ)) → (lower : List (List (List ℕ))) × (rows_from h levels row ≡ lower ++ top_row h levels row ∷ [])
split h zero row = ([], refl)
split h (suc levels) row = let up = split h levels (row_above h row) in (row ∷ up.0, ap (λ rows. row ∷ rows) up.1)

-- a list of at least one item is cut into at least one piece
some_piece : {X : Type 0} (size : ℕ) (xs : List X) → 0 < size → 0 < length xs → 0 < length (pieces size xs)
some_piece size xs least some = subst (λ n. 0 < n) (sym (ap length (pieces_cons size xs least some))) (omega arith)

-- over some strings stand some
some_above : (h : List ℕ → List ℕ) (row : List (List ℕ)) → 0 < length row → 0 < length (row_above h row)
some_above h row some =
    let names : 0 < length (map h row) = subst (λ n. 0 < n) (sym (length-map row h)) some in
    subst (λ n. 0 < n) (sym (length-map (pieces 64 (map h row)) inner_string)) (some_piece 64 (map h row) (omega arith) names)

some_top : (h : List ℕ → List ℕ) (levels : ℕ) (row : List (List ℕ)) → 0 < length row → 0 < length (top_row h levels row)
some_top h zero row some = some
some_top h (suc levels) row some = some_top h levels (row_above h row) (some_above h row some)

some_leaf : (block : ℕ) (content : List ℕ) → 0 < block → 0 < length content → 0 < length (leaf_row block content)
some_leaf block content least some = subst (λ n. 0 < n) (sym (length-map (pieces block content) leaf_string)) (some_piece block content least some)

one_item : {X : Type 0} (xs : List X) → 0 < length xs → length xs ≤ 1 → (x : X) × (xs ≡ x ∷ [])
one_item [] some few = absurd (omega arith)
one_item (x ∷ []) some few = (x, refl)
one_item (x ∷ y ∷ xs) some few = absurd (omega arith)

pub ends : (h : List ℕ → List ℕ) (block : ℕ) (content : List ℕ) → 64 ≤ block → block ≤ 8192 → 0 < length content → length content ≤ largest → EndsInOneString (rows_of h block content)
ends h block content least most some small =
    let row = leaf_row block content in
    let levels = height_of block content in
    let parts = split h levels row in
    let one = one_item (top_row h levels row) (some_top h levels row (some_leaf block content (omega arith) some)) (one_top h row (few_leaves block content least most small)) in
    (parts.0, one.0, parts.1 ∙ ap (λ top. parts.0 ++ top ∷ []) one.1)

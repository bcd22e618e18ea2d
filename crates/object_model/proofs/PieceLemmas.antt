-- A list in pieces is its first piece and the rest in pieces.
use Rattle.std.proofs.Common.{◌≡◌, ℕ, zero, suc, ◌+◌, ◌-◌, ◌*◌, ◌/◌, ◌<◌, ◌≤◌, List, [], ◌∷◌, Some, None, slice_get, map, length, take, drop, refl, ap, sym, ◌∙◌, inl, inr, arith}
use Rattle.std.proofs.lemmas.List.{drop-drop, length-drop}
use Rattle.std.proofs.lemmas.Bool.{cases_lt}
use Rattle.std.proofs.lemmas.List.FromFn.{length-map-range_with_len, get_or-map-range_with_len}
use Rattle.std.proofs.lemmas.Option.{slice_get-get_or, slice_get_past}
use Rattle.std.proofs.lemmas.Nat.{le-div, div_below}
use Rattle.std.proofs.Math.Nat.{add-div_right, div-eq_of_lt}
use Rattle.std.specs.List.{range_with_len}
use Rattle.std.specs.Fork.{slice_chunk}
use Rattle.tree_format.specs.Strings.{piece_count}
use Rattle.object_model.specs.Pieces.{pieces}

-- the pieces are those of the places
shifted : {Y : Type 0} (f g : ℕ → Y) (a b n : ℕ) → ((k : ℕ) → f (a + k) ≡ g (b + k)) → map f (range_with_len a n) ≡ map g (range_with_len b n)
shifted f g a b zero same = refl
shifted f g a b (suc n) same =
    let here : f a ≡ g b = ap f (omega arith) ∙ same 0 ∙ ap g (omega arith) in
    let rest = shifted f g (a + 1) (b + 1) n (λ k. ap f (omega arith) ∙ same (1 + k) ∙ ap g (omega arith)) in cc

count_cons : (n size : ℕ) → 0 < size → 0 < n → piece_count size n ≡ suc (piece_count size (n - size))
count_cons n size p q =
    let first : (n + size - 1) / size ≡ (n - 1) / size + 1 = ap (λ m. m / size) (omega arith) ∙ add-div_right (n - 1) p in
    elim (cases_lt size n) [
      | inr few ↦ let none : (n - 1) / size ≡ 0 = div-eq_of_lt (omega arith) in
          let rest : (n - size + size - 1) / size ≡ 0 = div-eq_of_lt (omega arith) in omega arith
      | inl more ↦ let rest : (n - size + size - 1) / size ≡ (n - 1) / size = ap (λ m. m / size) (omega arith) in omega arith
    ]

next_piece : {X : Type 0} (size : ℕ) (xs : List X) (k : ℕ) → slice_chunk xs size (1 + k) ≡ slice_chunk (drop size xs) size (0 + k)
next_piece size xs k = ap (take size) (ap (λ n. drop n xs) (omega arith) ∙ sym (drop-drop ((0 + k) * size) size xs))

cons_same : {X : Type 0} {x y : X} {xs ys : List X} → x ≡ y → xs ≡ ys → x ∷ xs ≡ y ∷ ys
cons_same e f = cc

pub pieces_cons : {X : Type 0} (size : ℕ) (xs : List X) → 0 < size → 0 < length xs → pieces size xs ≡ take size xs ∷ pieces size (drop size xs)
unfolding pieces
pieces_cons size xs p q =
    let zero_places : 0 * size ≡ 0 = omega arith in
    let first : slice_chunk xs size 0 ≡ take size xs = ap (λ n. take size (drop n xs)) zero_places in
    let rest = shifted (slice_chunk xs size) (slice_chunk (drop size xs) size) 1 0 (piece_count size (length xs - size)) (next_piece size xs) in
    let whole : map (slice_chunk (drop size xs) size) (range_with_len 0 (piece_count size (length xs - size))) ≡ pieces size (drop size xs) =
    ap (λ n. map (slice_chunk (drop size xs) size) (range_with_len 0 (piece_count size n))) (sym (length-drop size xs)) in
    rw (count_cons (length xs) size p q) (cons_same first (rest ∙ whole))

pub pieces_nil : {X : Type 0} (size : ℕ) → 0 < size → pieces {X = X} size [] ≡ []
unfolding pieces
pieces_nil {X} size p = let none : (0 + size - 1) / size ≡ 0 = div-eq_of_lt (omega arith) in rw none

pub count_pieces : {X : Type 0} (size : ℕ) (xs : List X) → length (pieces size xs) ≡ piece_count size (length xs)
unfolding pieces
count_pieces size xs = length-map-range_with_len (slice_chunk xs size) 0 (piece_count size (length xs))

-- the piece at a place, where there is one
pub piece_at : {X : Type 0} (size : ℕ) (xs : List X) (place : ℕ) → 0 < size → place * size < length xs → slice_get (pieces size xs) place ≡ Some (slice_chunk xs size place)
unfolding pieces
piece_at size xs place p l =
    let high : (place + 1) * size ≤ length xs + size - 1 = omega arith in
    let inside : place < piece_count size (length xs) = omega (arith, le-div (place + 1) (length xs + size - 1) size p high) in
    slice_get-get_or (map (slice_chunk xs size) (range_with_len 0 (piece_count size (length xs)))) place [] (omega (arith, length-map-range_with_len (slice_chunk xs size) 0 (piece_count size (length xs))))
    ∙ ap Some (get_or-map-range_with_len (slice_chunk xs size) 0 (piece_count size (length xs)) place place [] inside (omega arith))

pub no_piece_at : {X : Type 0} (size : ℕ) (xs : List X) (place : ℕ) → 0 < size → length xs ≤ place * size → slice_get (pieces size xs) place ≡ None
unfolding pieces
no_piece_at size xs place p l =
    let few : piece_count size (length xs) < place + 1 = div_below (length xs + size - 1) size (place + 1) p (omega arith) in
    slice_get_past (map (slice_chunk xs size) (range_with_len 0 (piece_count size (length xs)))) place (omega (arith, length-map-range_with_len (slice_chunk xs size) 0 (piece_count size (length xs))))

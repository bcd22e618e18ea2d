-- Any rows of the systematic code give the parts back.
use Rattle.std.proofs.Common.{◌≤◌, ◌++◌, ◌≡◌, ◌≢◌, ℕ, suc, ◌+◌, ◌<◌, Bool, true, false, cond, eqb, List, [], ◌∷◌, map, length, refl, sym, ap, ◌∙◌, arith, bit_xor, inl, inr, ◌⊎◌}
use Rattle.std.proofs.lemmas.List.{length-map}
use Rattle.std.proofs.lemmas.Simd.{map-map}
use Rattle.std.proofs.lemmas.Bool.{eqb-true, eq-eqb}
use Rattle.std.specs.Int.Bits.{xor_assoc, xor_self, xor_zero_r}
use Rattle.std.proofs.lemmas.Nat.{xor_comm}
use Rattle.gf256.specs.Field.{product, inverse}
use Rattle.gf256.proofs.Laws.{product_zero_l, product_one_l}
use Rattle.cauchy_code.specs.Code.{dot, cauchy_row, Bytes, Away, Distinct, AllBelow}
use Rattle.cauchy_code.specs.Table.{Apart}
use Rattle.cauchy_code.proofs.Blocks.{below_bytes}
use Rattle.cauchy_code.specs.Systematic.{In, Fit, byte_of, without, bytes_without, put, points, mixed_rows, share, mixed_table}
use Rattle.gf256.proofs.Ring.{products, sums}
use Rattle.cauchy_code.proofs.Elimination.{rebuilds, suc_same}

pub two : (b : Bool) → (b ≡ true) ⊎ (b ≡ false)
two true = inl refl
two false = inr refl

differ : {A : Type 0} (b : Bool) → b ≡ true → b ≡ false → A
differ true t f = cc
differ false t f = cc

cancel : (a b : ℕ) → bit_xor (bit_xor a b) a ≡ b
cancel a b = ap (λ z. bit_xor z a) (xor_comm a b) ∙ xor_assoc b a a ∙ ap (bit_xor b) (xor_self a) ∙ xor_zero_r b

pub not_here : (k c : ℕ) (cols : List ℕ) → eqb k c ≡ false → In k (c ∷ cols) → In k cols
not_here k c cols e (inl same) = let t = eq-eqb k c same in absurd (differ (eqb k c) t e)
not_here k c cols e (inr later) = later

-- a Cauchy row has its share of column k, and what is left of it has the other columns
row_without : (n x k : ℕ) (cols ps : List ℕ) → In k cols → length ps ≡ length cols
    → bit_xor (dot (cauchy_row x (points n cols)) ps) (product (inverse (bit_xor x (n + k))) (byte_of k cols ps)) ≡ dot (cauchy_row x (points n (without k cols))) (bytes_without k cols ps)
unfolding dot cauchy_row points byte_of without bytes_without
row_without n x k [] ps h long = absurd h
row_without n x k (c ∷ cols) [] h long = absurd (omega arith)
row_without n x k (c ∷ cols) (p ∷ ps) h long =
    let rest = dot (cauchy_row x (points n cols)) ps in
    elim (two (eqb k c)) [
      | inl e ↦
          let here : n + k ≡ n + c = ap (λ z. n + z) (eqb-true k c e) in
          rw e (ap (λ z. bit_xor (bit_xor (product (inverse (bit_xor x (n + c))) p) rest) (product (inverse (bit_xor x z)) p)) here ∙ cancel (product (inverse (bit_xor x (n + c))) p) rest)
      | inr e ↦
          rw e (xor_assoc (product (inverse (bit_xor x (n + c))) p) rest (product (inverse (bit_xor x (n + k))) (byte_of k cols ps))
          ∙ ap (bit_xor (product (inverse (bit_xor x (n + c))) p)) (row_without n x k cols ps (not_here k c cols e h) (suc_same long)))
    ]

byte_of_nil : (k : ℕ) (cols : List ℕ) → byte_of k cols [] ≡ 0
unfolding byte_of
byte_of_nil k [] = refl
byte_of_nil k (c ∷ cols) = refl

-- another column's byte is not touched
byte_without : (k j : ℕ) (cols ps : List ℕ) → k ≢ j → byte_of j (without k cols) (bytes_without k cols ps) ≡ byte_of j cols ps
unfolding byte_of without bytes_without
byte_without k j [] ps ne = refl
byte_without k j (c ∷ cols) [] ne = byte_of_nil j (without k (c ∷ cols))
byte_without k j (c ∷ cols) (p ∷ ps) ne =
    elim (two (eqb k c)) [
      | inl e ↦ rw e (elim (two (eqb j c)) [ inl f ↦ absurd (ne (eqb-true k c e ∙ sym (eqb-true j c f))) | inr f ↦ rw f refl ])
      | inr e ↦ rw e (ap (λ z. cond (eqb j c) p z) (byte_without k j cols ps ne))
    ]

without_bytes : (k : ℕ) (cols ps : List ℕ) → Bytes ps → Bytes (bytes_without k cols ps)
unfolding bytes_without
without_bytes k [] ps h = tt
without_bytes k (c ∷ cols) [] h = tt
without_bytes k (c ∷ cols) (p ∷ ps) h =
    elim (two (eqb k c)) [
      | inl e ↦ rw e h.1
      | inr e ↦ rw e (h.0, without_bytes k cols ps h.1)
    ]

without_length : (k : ℕ) (cols ps : List ℕ) → length ps ≡ length cols → length (bytes_without k cols ps) ≡ length (without k cols)
unfolding without bytes_without
without_length k [] ps h = refl
without_length k (c ∷ cols) [] h = absurd (omega arith)
without_length k (c ∷ cols) (p ∷ ps) h =
    elim (two (eqb k c)) [
      | inl e ↦ rw e (suc_same h)
      | inr e ↦ rw e (ap suc (without_length k cols ps (suc_same h)))
    ]

start : (k c : ℕ) (cols : List ℕ) (p : ℕ) (ps : List ℕ) → eqb k c ≡ true → put k (c ∷ cols) p ps ≡ p ∷ ps
unfolding put
start k c cols p [] e = refl
start k c cols p (q ∷ ps) e = rw e refl

put_back : (k : ℕ) (cols ps : List ℕ) → In k cols → length ps ≡ length cols → put k cols (byte_of k cols ps) (bytes_without k cols ps) ≡ ps
unfolding byte_of bytes_without put
put_back k [] ps h long = absurd h
put_back k (c ∷ cols) [] h long = absurd (omega arith)
put_back k (c ∷ cols) (p ∷ ps) h long =
    elim (two (eqb k c)) [
      | inl e ↦ rw e (start k c cols p ps e)
      | inr e ↦ rw e (rw e (ap (λ t. p ∷ t) (put_back k cols ps (not_here k c cols e h) (suc_same long))))
    ]

map_put : {A B : Type 0} (f : A → B) (k : ℕ) (cols : List ℕ) (a : A) (xs : List A) → map f (put k cols a xs) ≡ put k cols (f a) (map f xs)
unfolding put
map_put f k [] a xs = refl
map_put f k (c ∷ cols) a [] = refl
map_put f k (c ∷ cols) a (x ∷ xs) =
    elim (two (eqb k c)) [
      | inl e ↦ rw e refl
      | inr e ↦ rw e (ap (λ t. f x ∷ t) (map_put f k cols a xs))
    ]

-- what a row of the smaller table gives
gather : (w s r b d S D : ℕ) → b ≡ bit_xor d (product s r) → bit_xor (product (bit_xor (product w s) S) r) (bit_xor (product w d) D) ≡ bit_xor (product w b) (bit_xor (product S r) D)
gather w s r b d S D e = rw e (simp (products, sums))

share_dot : (n k : ℕ) (w ks xs cols ps : List ℕ) → In k cols → length ps ≡ length cols → Away k ks
    → bit_xor (product (dot w (share n k ks xs)) (byte_of k cols ps)) (dot w (mixed_rows n ks xs cols ps)) ≡ dot w (mixed_rows n ks xs (without k cols) (bytes_without k cols ps))
unfolding dot share mixed_rows
share_dot n k [] ks xs cols ps h long away = rw (product_zero_l (byte_of k cols ps)) refl
share_dot n k (w ∷ ws) [] [] cols ps h long away = rw (product_zero_l (byte_of k cols ps)) refl
share_dot n k (w ∷ ws) [] (x ∷ xs) cols ps h long away =
    gather w (inverse (bit_xor x (n + k))) (byte_of k cols ps) (dot (cauchy_row x (points n (without k cols))) (bytes_without k cols ps)) (dot (cauchy_row x (points n cols)) ps)
    (dot ws (share n k [] xs)) (dot ws (mixed_rows n [] xs cols ps)) (sym (row_without n x k cols ps h long))
    ∙ ap (bit_xor (product w (dot (cauchy_row x (points n (without k cols))) (bytes_without k cols ps)))) (share_dot n k ws [] xs cols ps h long away)
share_dot n k (w ∷ ws) (j ∷ ks) xs cols ps h long away =
    gather w 0 (byte_of k cols ps) (byte_of j (without k cols) (bytes_without k cols ps)) (byte_of j cols ps)
    (dot ws (share n k ks xs)) (dot ws (mixed_rows n ks xs cols ps))
    (byte_without k j cols ps away.0 ∙ sym (ap (bit_xor (byte_of j cols ps)) (product_zero_l (byte_of k cols ps)) ∙ xor_zero_r (byte_of j cols ps)))
    ∙ ap (bit_xor (product w (byte_of j (without k cols) (bytes_without k cols ps)))) (share_dot n k ws ks xs cols ps h long away.1)

byte_of_byte : (k : ℕ) (cols ps : List ℕ) → Bytes ps → byte_of k cols ps < 256
unfolding byte_of
byte_of_byte k [] ps h = omega arith
byte_of_byte k (c ∷ cols) [] h = omega arith
byte_of_byte k (c ∷ cols) (p ∷ ps) h =
    elim (two (eqb k c)) [
      | inl e ↦ rw e h.0
      | inr e ↦ rw e (byte_of_byte k cols ps h.1)
    ]

zeros_dot : (zs rs : List ℕ) → dot (map (λ _. 0) zs) rs ≡ 0
unfolding dot
zeros_dot [] rs = refl
zeros_dot (z ∷ zs) [] = refl
zeros_dot (z ∷ zs) (r ∷ rs) = (λ i. bit_xor (product_zero_l r i) (zeros_dot zs rs i))

unit_dot : (zs : List ℕ) (r : ℕ) (rs : List ℕ) → r < 256 → dot (1 ∷ map (λ _. 0) zs) (r ∷ rs) ≡ r
unfolding dot
unit_dot zs r rs h = ap (bit_xor (product 1 r)) (zeros_dot zs rs) ∙ xor_zero_r (product 1 r) ∙ product_one_l r h

first_dot : (s : ℕ) (w : List ℕ) (r : ℕ) (rs : List ℕ) → dot (s ∷ w) (r ∷ rs) ≡ bit_xor (product s r) (dot w rs)
unfolding dot
first_dot s w r rs = refl

-- **The mixed table gives the parts back.**
pub mixed_rebuilds : (n : ℕ) (ks xs cols : List ℕ) → Fit n ks xs cols → (ps : List ℕ) → Bytes ps → length ps ≡ length cols
    → map (λ w. dot w (mixed_rows n ks xs cols ps)) (mixed_table n ks xs cols) ≡ ps
unfolding mixed_table mixed_rows points
mixed_rebuilds n [] xs cols fit ps bytes long = rebuilds xs (map (λ k. n + k) cols) fit ps bytes (long ∙ sym (length-map cols (λ k. n + k)))
mixed_rebuilds n (k ∷ ks) xs cols fit ps bytes long =
    let r = byte_of k cols ps in
    let R = mixed_rows n ks xs cols ps in
    let below = mixed_table n ks xs (without k cols) in
    map_put (λ w. dot w (r ∷ R)) k cols (1 ∷ map (λ _. 0) (ks ++ xs)) (map (λ w. dot w (share n k ks xs) ∷ w) below)
    ∙ (λ i. put k cols (unit_dot (ks ++ xs) r R (byte_of_byte k cols ps bytes) i) (map-map (λ w. dot w (r ∷ R)) (λ w. dot w (share n k ks xs) ∷ w) below i))
    ∙ (λ i. put k cols r (map (λ w. (first_dot (dot w (share n k ks xs)) w r R ∙ share_dot n k w ks xs cols ps fit.0 long fit.1) i) below))
    ∙ ap (put k cols r) (mixed_rebuilds n ks xs (without k cols) fit.2 (bytes_without k cols ps) (without_bytes k cols ps bytes) (without_length k cols ps long))
    ∙ put_back k cols ps fit.0 long

-- ---- when parts and rows are enough
abbrev pub AllIn : List ℕ → List ℕ → Type 0
AllIn [] cols = Unit {0}
AllIn (k ∷ ks) cols = In k cols × AllIn ks cols

still_in : (k j : ℕ) (cols : List ℕ) → k ≢ j → In j cols → In j (without k cols)
unfolding without
still_in k j [] ne h = absurd h
still_in k j (c ∷ cols) ne (inl same) =
    elim (two (eqb k c)) [
      | inl e ↦ absurd (ne (eqb-true k c e ∙ sym same))
      | inr e ↦ rw e (inl same)
    ]
still_in k j (c ∷ cols) ne (inr later) =
    elim (two (eqb k c)) [
      | inl e ↦ rw e later
      | inr e ↦ rw e (inr (still_in k j cols ne later))
    ]

all_still_in : (k : ℕ) (ks cols : List ℕ) → Away k ks → AllIn ks cols → AllIn ks (without k cols)
all_still_in k [] cols away h = tt
all_still_in k (j ∷ ks) cols away h = (still_in k j cols away.0 h.0, all_still_in k ks cols away.1 h.1)

away_without : (z k : ℕ) (cols : List ℕ) → Away z cols → Away z (without k cols)
unfolding without
away_without z k [] h = tt
away_without z k (c ∷ cols) h =
    elim (two (eqb k c)) [
      | inl e ↦ rw e h.1
      | inr e ↦ rw e (h.0, away_without z k cols h.1)
    ]

distinct_without : (k : ℕ) (cols : List ℕ) → Distinct cols → Distinct (without k cols)
unfolding without
distinct_without k [] h = tt
distinct_without k (c ∷ cols) h =
    elim (two (eqb k c)) [
      | inl e ↦ rw e h.1
      | inr e ↦ rw e (away_without c k cols h.0, distinct_without k cols h.1)
    ]

pub below_without : (m k : ℕ) (cols : List ℕ) → AllBelow m cols → AllBelow m (without k cols)
unfolding without
below_without m k [] h = tt
below_without m k (c ∷ cols) h =
    elim (two (eqb k c)) [
      | inl e ↦ rw e h.1
      | inr e ↦ rw e (h.0, below_without m k cols h.1)
    ]

pub one_less : (k : ℕ) (cols : List ℕ) → In k cols → suc (length (without k cols)) ≡ length cols
unfolding without
one_less k [] h = absurd h
one_less k (c ∷ cols) h =
    elim (two (eqb k c)) [
      | inl e ↦ rw e refl
      | inr e ↦ rw e (ap suc (one_less k cols (not_here k c cols e h)))
    ]

points_away : (n c : ℕ) (cols : List ℕ) → Away c cols → Away (n + c) (points n cols)
unfolding points
points_away n c [] h = tt
points_away n c (d ∷ cols) h = ((λ e. h.0 (omega arith)), points_away n c cols h.1)

points_distinct : (n : ℕ) (cols : List ℕ) → Distinct cols → Distinct (points n cols)
unfolding points
points_distinct n [] h = tt
points_distinct n (c ∷ cols) h = (points_away n c cols h.0, points_distinct n cols h.1)

points_bytes : (n m : ℕ) (cols : List ℕ) → n + m ≤ 256 → AllBelow m cols → Bytes (points n cols)
unfolding points
points_bytes n m [] room h = tt
points_bytes n m (c ∷ cols) room h = (omega (arith, h.0), points_bytes n m cols room h.1)

points_apart : (n x : ℕ) (cols : List ℕ) → x < n → Away x (points n cols)
unfolding points
points_apart n x [] lt = tt
points_apart n x (c ∷ cols) lt = ((λ e. absurd (omega arith)), points_apart n x cols lt)

all_apart : (n : ℕ) (xs cols : List ℕ) → AllBelow n xs → Apart xs (points n cols)
all_apart n [] cols h = tt
all_apart n (x ∷ xs) cols h = (points_apart n x cols h.0, all_apart n xs cols h.1)

pub fit : (n m : ℕ) (ks xs cols : List ℕ) → n + m ≤ 256 → AllBelow n xs → Distinct xs → Distinct ks → AllIn ks cols → Distinct cols → AllBelow m cols → length ks + length xs ≡ length cols
    → Fit n ks xs cols
unfolding points
fit n m [] xs cols room bx dx dk inside dc bc count = record {
  row_bytes = below_bytes n xs (omega arith) bx;
  column_bytes = points_bytes n m cols room bc;
  rows_differ = dx;
  columns_differ = points_distinct n cols dc;
  apart = all_apart n xs cols bx;
  square = omega (arith, length-map cols (λ k. n + k));
}
fit n m (k ∷ ks) xs cols room bx dx dk inside dc bc count =
    (inside.0, dk.0, fit n m ks xs (without k cols) room bx dx dk.1 (all_still_in k ks cols dk.0 inside.1) (distinct_without k cols dc) (below_without m k cols bc) (omega (arith, one_less k cols inside.0)))

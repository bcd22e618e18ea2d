-- The table that gives the parts back from the rows, made by the elimination of one row and one column at a time.
use Rattle.std.proofs.Common.{◌≡◌, ℕ, suc, ◌<◌, ◌≢◌, List, [], ◌∷◌, map, length, refl, sym, ap, ◌∙◌, arith, bit_xor}
use Rattle.std.specs.Int.Bits.{xor_assoc, xor_self, xor_zero_r}
use Rattle.std.proofs.lemmas.Nat.{xor_comm}
use Rattle.gf256.specs.Field.{product, inverse}
use Rattle.gf256.proofs.Laws.{product_byte, product_assoc, product_one_l, product_sum_l, product_sum_r, product_zero_l, product_zero_r}
use Rattle.gf256.proofs.Linear.{xor_swap}
use Rattle.cauchy_code.specs.Code.{dot, cauchy_row, Bytes, Away}
use Rattle.cauchy_code.specs.Table.{rows, Apart, Points, Rebuilds}
use Rattle.cauchy_code.specs.Table.{scale, add, mix, times, kept, taken, back, forth, lower, upper, inverse_table}
use Rattle.gf256.proofs.Ring.{products, sums, xor_byte, unit, unit_cancel}
use Rattle.cauchy_code.proofs.Ring.{cauchy_step}

pub suc_same : {m n : ℕ} → suc m ≡ suc n → m ≡ n
suc_same h = omega arith

pub dot-scale : (c : ℕ) (w rs : List ℕ) → dot (scale c w) rs ≡ product c (dot w rs)
unfolding dot scale
dot-scale c [] rs = sym (product_zero_r c)
dot-scale c (w ∷ ws) [] = sym (product_zero_r c)
dot-scale c (w ∷ ws) (r ∷ rs) = rw (dot-scale c ws rs, product_sum_r c (product w r) (dot ws rs), product_assoc c w r) refl

pub dot-nil : (w : List ℕ) → dot w [] ≡ 0
unfolding dot
dot-nil [] = refl
dot-nil (w ∷ ws) = refl

pub dot-add : (u v rs : List ℕ) → dot (add u v) rs ≡ bit_xor (dot u rs) (dot v rs)
unfolding dot add
dot-add [] v rs = refl
dot-add (u ∷ us) [] rs = sym (xor_zero_r (dot (u ∷ us) rs))
dot-add (u ∷ us) (v ∷ vs) [] = refl
dot-add (u ∷ us) (v ∷ vs) (r ∷ rs) =
    (λ i. bit_xor (product_sum_l u v r i) (dot-add us vs rs i)) ∙ xor_swap (product u r) (product v r) (dot us rs) (dot vs rs)

pub dot-mix : (cs : List ℕ) (table : List (List ℕ)) (rs : List ℕ) → dot (mix cs table) rs ≡ dot cs (map (λ w. dot w rs) table)
unfolding dot mix
dot-mix [] table rs = refl
dot-mix (c ∷ cs) [] rs = refl
dot-mix (c ∷ cs) (w ∷ table) rs = dot-add (scale c w) (mix cs table) rs ∙ (λ i. bit_xor (dot-scale c w rs i) (dot-mix cs table rs i))

head : (w g r k : ℕ) → bit_xor (product (product w g) r) (product w k) ≡ product w (bit_xor k (product g r))
head w g r k = xor_comm (product (product w g) r) (product w k) ∙ ap (bit_xor (product w k)) (product_assoc w g r) ∙ sym (product_sum_r w k (product g r))

-- a row of the smaller table, of rows that were made by f and g out of the first row and one more, read as a row over those
pub dot-lower : (f g h : ℕ → ℕ) (r : ℕ) (w xs : List ℕ)
    → bit_xor (product (dot w (map g xs)) r) (dot (times w (map f xs)) (map h xs)) ≡ dot w (map (λ x. bit_xor (product (f x) (h x)) (product (g x) r)) xs)
unfolding dot times
dot-lower f g h r [] xs = rw (product_zero_l r) refl
dot-lower f g h r (w ∷ ws) [] = rw (product_zero_l r) refl
dot-lower f g h r (w ∷ ws) (x ∷ xs) =
    (λ i. bit_xor (product_sum_l (product w (g x)) (dot ws (map g xs)) r i) (bit_xor (product_assoc w (f x) (h x) i) (dot (times ws (map f xs)) (map h xs))))
    ∙ xor_swap (product (product w (g x)) r) (product (dot ws (map g xs)) r) (product w (product (f x) (h x))) (dot (times ws (map f xs)) (map h xs))
    ∙ (λ i. bit_xor (head w (g x) r (product (f x) (h x)) i) (dot-lower f g h r ws xs i))

-- ---- its law
-- the parts of the smaller task
unfoldable pub forward : ℕ → ℕ → List ℕ → List ℕ → List ℕ
forward x0 y0 [] ps = []
forward x0 y0 (y ∷ ys) [] = []
forward x0 y0 (y ∷ ys) (p ∷ ps) = product (forth x0 y0 y) p ∷ forward x0 y0 ys ps

unfoldable pub backward : ℕ → ℕ → List ℕ → List ℕ → List ℕ
backward x0 y0 [] qs = []
backward x0 y0 (y ∷ ys) [] = []
backward x0 y0 (y ∷ ys) (q ∷ qs) = product (back x0 y0 y) q ∷ backward x0 y0 ys qs

pub forward_bytes : (x0 y0 : ℕ) (ys ps : List ℕ) → Bytes (forward x0 y0 ys ps)
unfolding forward
forward_bytes x0 y0 [] ps = tt
forward_bytes x0 y0 (y ∷ ys) [] = tt
forward_bytes x0 y0 (y ∷ ys) (p ∷ ps) = (product_byte (forth x0 y0 y) p, forward_bytes x0 y0 ys ps)

pub forward_length : (x0 y0 : ℕ) (ys ps : List ℕ) → length ps ≡ length ys → length (forward x0 y0 ys ps) ≡ length ys
unfolding forward
forward_length x0 y0 [] ps h = refl
forward_length x0 y0 (y ∷ ys) [] h = h
forward_length x0 y0 (y ∷ ys) (p ∷ ps) h = ap suc (forward_length x0 y0 ys ps (suc_same h))

-- one column: it has the factor of the smaller task
column : (x0 y0 x y p : ℕ) → x0 < 256 → y0 < 256 → x < 256 → y < 256 → x ≢ x0 → x ≢ y → x0 ≢ y
    → bit_xor (product (kept x0 y0 x) (product (inverse (bit_xor x y)) p)) (product (taken x0 y0 x) (product (inverse (bit_xor x0 y)) p))
    ≡ product (inverse (bit_xor x y)) (product (forth x0 y0 y) p)
unfolding kept taken forth
column x0 y0 x y p bx0 by0 bx by nx nxy nx0y =
    let a = bit_xor x y0 in
    let c = bit_xor x0 y0 in
    let h = bit_xor y y0 in
    let ib = inverse (bit_xor x0 y) in
    let id = inverse (bit_xor x y) in
    let ig = inverse (bit_xor x x0) in
    let sb : bit_xor c h ≡ bit_xor x0 y = simp sums in
    let sd : bit_xor a h ≡ bit_xor x y = simp sums in
    let sg : bit_xor a c ≡ bit_xor x x0 = simp sums in
    let step = cauchy_step a c h ib id ig (ap (λ z. product z ib) sb ∙ unit x0 y bx0 by nx0y) (ap (λ z. product z id) sd ∙ unit x y bx by nxy) (ap (λ z. product z ig) sg ∙ unit x x0 bx bx0 nx) in
    let left : product (product a ig) (product id p) ≡ product (product id (product a ig)) p = simp products in
    let right : product (product c ig) (product ib p) ≡ product (product ib (product c ig)) p = simp products in
    let end : product (product h (product ib id)) p ≡ product id (product (product h ib) p) = simp products in
    (λ i. bit_xor (left i) (right i)) ∙ sym (product_sum_l _ _ p) ∙ ap (λ z. product z p) step ∙ end

-- all columns but the first
columns : (x0 y0 x : ℕ) (ys ps : List ℕ) → x0 < 256 → y0 < 256 → x < 256 → x ≢ x0 → Bytes ys → Away x ys → Away x0 ys
    → bit_xor (product (kept x0 y0 x) (dot (cauchy_row x ys) ps)) (product (taken x0 y0 x) (dot (cauchy_row x0 ys) ps))
    ≡ dot (cauchy_row x ys) (forward x0 y0 ys ps)
unfolding dot cauchy_row forward
columns x0 y0 x [] ps bx0 by0 bx nx b ax ax0 = (λ i. bit_xor (product_zero_r (kept x0 y0 x) i) (product_zero_r (taken x0 y0 x) i))
columns x0 y0 x (y ∷ ys) [] bx0 by0 bx nx b ax ax0 = (λ i. bit_xor (product_zero_r (kept x0 y0 x) i) (product_zero_r (taken x0 y0 x) i))
columns x0 y0 x (y ∷ ys) (p ∷ ps) bx0 by0 bx nx b ax ax0 =
    let f = kept x0 y0 x in
    let g = taken x0 y0 x in
    let u = product (inverse (bit_xor x y)) p in
    let v = product (inverse (bit_xor x0 y)) p in
    (λ i. bit_xor (product_sum_r f u (dot (cauchy_row x ys) ps) i) (product_sum_r g v (dot (cauchy_row x0 ys) ps) i))
    ∙ xor_swap (product f u) (product f (dot (cauchy_row x ys) ps)) (product g v) (product g (dot (cauchy_row x0 ys) ps))
    ∙ (λ i. bit_xor (column x0 y0 x y p bx0 by0 bx b.0 nx ax.0 ax0.0 i) (columns x0 y0 x ys ps bx0 by0 bx nx b.1 ax.1 ax0.1 i))

-- the first column goes away
first : (x0 y0 x p : ℕ) → x0 < 256 → y0 < 256 → x < 256 → x ≢ y0 → x0 ≢ y0
    → bit_xor (product (kept x0 y0 x) (product (inverse (bit_xor x y0)) p)) (product (taken x0 y0 x) (product (inverse (bit_xor x0 y0)) p)) ≡ 0
unfolding kept taken
first x0 y0 x p bx0 by0 bx nx nx0 =
    let a = bit_xor x y0 in
    let c = bit_xor x0 y0 in
    let ig = inverse (bit_xor x x0) in
    let l : product (product a ig) (product (inverse a) p) ≡ product a (product (inverse a) (product ig p)) = simp products in
    let r : product (product c ig) (product (inverse c) p) ≡ product c (product (inverse c) (product ig p)) = simp products in
    (λ i. bit_xor ((l ∙ unit_cancel a (inverse a) (product ig p) (unit x y0 bx by0 nx) (product_byte ig p)) i)
    ((r ∙ unit_cancel c (inverse c) (product ig p) (unit x0 y0 bx0 by0 nx0) (product_byte ig p)) i))
    ∙ xor_self (product ig p)

-- one row of the smaller task
eliminated : (x0 y0 x : ℕ) (ys : List ℕ) (p : ℕ) (ps : List ℕ) → x0 < 256 → y0 < 256 → x < 256 → x ≢ x0 → Bytes ys → Away x (y0 ∷ ys) → Away x0 (y0 ∷ ys)
    → bit_xor (product (kept x0 y0 x) (dot (cauchy_row x (y0 ∷ ys)) (p ∷ ps))) (product (taken x0 y0 x) (dot (cauchy_row x0 (y0 ∷ ys)) (p ∷ ps)))
    ≡ dot (cauchy_row x ys) (forward x0 y0 ys ps)
unfolding dot cauchy_row
eliminated x0 y0 x ys p ps bx0 by0 bx nx b ax ax0 =
    let f = kept x0 y0 x in
    let g = taken x0 y0 x in
    let u = product (inverse (bit_xor x y0)) p in
    let v = product (inverse (bit_xor x0 y0)) p in
    (λ i. bit_xor (product_sum_r f u (dot (cauchy_row x ys) ps) i) (product_sum_r g v (dot (cauchy_row x0 ys) ps) i))
    ∙ xor_swap (product f u) (product f (dot (cauchy_row x ys) ps)) (product g v) (product g (dot (cauchy_row x0 ys) ps))
    ∙ (λ i. bit_xor (first x0 y0 x p bx0 by0 bx ax.0 ax0.0 i) (columns x0 y0 x ys ps bx0 by0 bx nx b ax.1 ax0.1 i))

-- all rows of the smaller task
smaller_rows : (x0 y0 : ℕ) (xs ys : List ℕ) (p : ℕ) (ps : List ℕ) → x0 < 256 → y0 < 256 → Bytes xs → Away x0 xs → Bytes ys → Apart xs (y0 ∷ ys) → Away x0 (y0 ∷ ys)
    → map (λ x. bit_xor (product (kept x0 y0 x) (dot (cauchy_row x (y0 ∷ ys)) (p ∷ ps))) (product (taken x0 y0 x) (dot (cauchy_row x0 (y0 ∷ ys)) (p ∷ ps)))) xs
    ≡ rows xs ys (forward x0 y0 ys ps)
smaller_rows x0 y0 [] ys p ps bx0 by0 bxs ax b apart ax0 = refl
smaller_rows x0 y0 (x ∷ xs) ys p ps bx0 by0 bxs ax b apart ax0 =
    λ i. eliminated x0 y0 x ys p ps bx0 by0 bxs.0 (λ e. ax.0 (sym e)) b apart.0 ax0 i ∷ smaller_rows x0 y0 xs ys p ps bx0 by0 bxs.1 ax.1 b apart.1 ax0 i

unfolded : (w : ℕ) (ws : List ℕ) (r : ℕ) (rs : List ℕ) → dot (w ∷ ws) (r ∷ rs) ≡ bit_xor (product w r) (dot ws rs)
unfolding dot
unfolded w ws r rs = refl

-- what the lower rows of the table give, of what the smaller table gives
lower_gives : (x0 y0 : ℕ) (xs ys : List ℕ) (h : ℕ → ℕ) (r : ℕ) (table : List (List ℕ))
    → map (λ w. dot w (r ∷ map h xs)) (lower x0 y0 xs ys table)
    ≡ backward x0 y0 ys (map (λ w. dot w (map (λ x. bit_xor (product (kept x0 y0 x) (h x)) (product (taken x0 y0 x) r)) xs)) table)
unfolding lower backward
lower_gives x0 y0 xs [] h r table = refl
lower_gives x0 y0 xs (y ∷ ys) h r [] = refl
lower_gives x0 y0 xs (y ∷ ys) h r (w ∷ table) =
    λ i. (dot-scale (back x0 y0 y) (dot w (map (taken x0 y0) xs) ∷ times w (map (kept x0 y0) xs)) (r ∷ map h xs)
    ∙ ap (product (back x0 y0 y)) (unfolded (dot w (map (taken x0 y0) xs)) (times w (map (kept x0 y0) xs)) r (map h xs) ∙ dot-lower (kept x0 y0) (taken x0 y0) h r w xs)) i
    ∷ lower_gives x0 y0 xs ys h r table i

-- back and forth
back_forth : (x0 y0 y p : ℕ) → x0 < 256 → y0 < 256 → y < 256 → p < 256 → x0 ≢ y → y0 ≢ y → product (back x0 y0 y) (product (forth x0 y0 y) p) ≡ p
unfolding back forth
back_forth x0 y0 y p bx0 by0 by bp nx ny =
    let b = bit_xor x0 y in
    let h = bit_xor y y0 in
    let e : product (product b (inverse h)) (product (product h (inverse b)) p) ≡ product b (product (inverse b) (product h (product (inverse h) p))) = simp products in
    e ∙ ap (λ z. product b (product (inverse b) z)) (unit_cancel h (inverse h) p (unit y y0 by by0 (λ e. ny (sym e))) bp)
    ∙ unit_cancel b (inverse b) p (unit x0 y bx0 by nx) bp

backward_forward : (x0 y0 : ℕ) (ys ps : List ℕ) → x0 < 256 → y0 < 256 → Bytes ys → Away x0 ys → Away y0 ys → Bytes ps → length ps ≡ length ys
    → backward x0 y0 ys (forward x0 y0 ys ps) ≡ ps
unfolding backward forward
backward_forward x0 y0 [] [] bx0 by0 b ax ay bp h = refl
backward_forward x0 y0 [] (p ∷ ps) bx0 by0 b ax ay bp h = absurd (omega arith)
backward_forward x0 y0 (y ∷ ys) [] bx0 by0 b ax ay bp h = absurd (omega arith)
backward_forward x0 y0 (y ∷ ys) (p ∷ ps) bx0 by0 b ax ay bp h =
    λ i. back_forth x0 y0 y p bx0 by0 b.0 bp.0 ax.0 ay.0 i ∷ backward_forward x0 y0 ys ps bx0 by0 b.1 ax.1 ay.1 bp.1 (suc_same h) i

dot-one : (r : ℕ) (rs : List ℕ) → r < 256 → dot (1 ∷ []) (r ∷ rs) ≡ r
unfolding dot
dot-one r rs h = xor_zero_r (product 1 r) ∙ product_one_l r h

dot-byte : (ws rs : List ℕ) → dot ws rs < 256
unfolding dot
dot-byte [] rs = omega arith
dot-byte (w ∷ ws) [] = omega arith
dot-byte (w ∷ ws) (r ∷ rs) = xor_byte (product w r) (dot ws rs) (product_byte w r) (dot-byte ws rs)

-- the first part, from the others and the first row
upper_gives : (x0 y0 : ℕ) (ys : List ℕ) (p : ℕ) (ps rs : List ℕ) (below : List (List ℕ)) → x0 < 256 → y0 < 256 → x0 ≢ y0 → p < 256
    → map (λ w. dot w (dot (cauchy_row x0 (y0 ∷ ys)) (p ∷ ps) ∷ rs)) below ≡ ps
    → dot (upper x0 y0 ys below) (dot (cauchy_row x0 (y0 ∷ ys)) (p ∷ ps) ∷ rs) ≡ p
unfolding upper cauchy_row
upper_gives x0 y0 ys p ps rs below bx by ne bp rest =
    let c = bit_xor x0 y0 in
    let r = dot (cauchy_row x0 (y0 ∷ ys)) (p ∷ ps) in
    let s = dot (cauchy_row x0 ys) ps in
    let split : r ≡ bit_xor (product (inverse c) p) s = unfolded (inverse c) (cauchy_row x0 ys) p ps in
    dot-scale c (add (1 ∷ []) (mix (cauchy_row x0 ys) below)) (r ∷ rs)
    ∙ ap (product c)
    (dot-add (1 ∷ []) (mix (cauchy_row x0 ys) below) (r ∷ rs)
    ∙ (λ i. bit_xor ((dot-one r rs (dot-byte (cauchy_row x0 (y0 ∷ ys)) (p ∷ ps)) ∙ split) i) ((dot-mix (cauchy_row x0 ys) below (r ∷ rs) ∙ ap (dot (cauchy_row x0 ys)) rest) i))
    ∙ xor_assoc (product (inverse c) p) s s ∙ ap (bit_xor (product (inverse c) p)) (xor_self s) ∙ xor_zero_r (product (inverse c) p))
    ∙ unit_cancel c (inverse c) p (unit x0 y0 bx by ne) bp

apart_tail : (y : ℕ) (xs ys : List ℕ) → Apart xs (y ∷ ys) → Apart xs ys
apart_tail y [] ys h = tt
apart_tail y (x ∷ xs) ys h = (h.0.1, apart_tail y xs ys h.1)

pub points_tail : (x y : ℕ) (xs ys : List ℕ) → Points (x ∷ xs) (y ∷ ys) → Points xs ys
points_tail x y xs ys h = record { row_bytes = h.row_bytes.1; column_bytes = h.column_bytes.1; rows_differ = h.rows_differ.1; columns_differ = h.columns_differ.1; apart = apart_tail y xs ys h.apart.1; square = suc_same h.square }

-- The table gives the parts back from the rows.
pub rebuilds : (xs ys : List ℕ) → Points xs ys → Rebuilds (inverse_table xs ys) xs ys
unfolding inverse_table
rebuilds [] [] h [] bytes long = refl
rebuilds [] [] h (p ∷ ps) bytes long = absurd (omega arith)
rebuilds [] (y ∷ ys) h ps bytes long = let e = h.square in absurd (omega arith)
rebuilds (x ∷ xs) [] h ps bytes long = let e = h.square in absurd (omega arith)
rebuilds (x ∷ xs) (y ∷ ys) h [] bytes long = absurd (omega arith)
rebuilds (x ∷ xs) (y ∷ ys) h (p ∷ ps) bytes long =
    let inner = points_tail x y xs ys h in
    let r = dot (cauchy_row x (y ∷ ys)) (p ∷ ps) in
    let same = smaller_rows x y xs ys p ps h.row_bytes.0 h.column_bytes.0 h.row_bytes.1 h.rows_differ.0 h.column_bytes.1 h.apart.1 h.apart.0 in
    let smaller = rebuilds xs ys inner (forward x y ys ps) (forward_bytes x y ys ps) (forward_length x y ys ps (suc_same long)) in
    let below = lower x y xs ys (inverse_table xs ys) in
    let rest : map (λ w. dot w (rows (x ∷ xs) (y ∷ ys) (p ∷ ps))) below ≡ ps =
    lower_gives x y xs ys (λ z. dot (cauchy_row z (y ∷ ys)) (p ∷ ps)) r (inverse_table xs ys)
    ∙ ap (λ R. backward x y ys (map (λ w. dot w R) (inverse_table xs ys))) same
    ∙ ap (backward x y ys) smaller
    ∙ backward_forward x y ys ps h.row_bytes.0 h.column_bytes.0 h.column_bytes.1 h.apart.0.1 h.columns_differ.0 bytes.1 (suc_same long) in
    λ i. (upper_gives x y ys p ps (map (λ z. dot (cauchy_row z (y ∷ ys)) (p ∷ ps)) xs) below h.row_bytes.0 h.column_bytes.0 h.apart.0.0 bytes.0 rest) i ∷ rest i

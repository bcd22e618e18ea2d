-- Rows of a table of products.
use Rattle.std.proofs.Common.{◌≡◌, ℕ, zero, suc, ◌+◌, ◌-◌, ◌*◌, ◌/◌, ◌%◌, ◌^◌, ◌<◌, ◌≤◌, List, get_or, refl, sym, ap, subst, ◌∙◌, arith, bit_xor, inl, inr}
use Rattle.std.proofs.lemmas.Bool.{cases_lt, lt-ltb, le-ltb}
use Rattle.std.specs.Int.Bits.{xor_shifted}
use Rattle.gf256.specs.Field.{product}
use Rattle.gf256.proofs.Laws.{product_sum_l}
use Rattle.gf_lanes.specs.ProductRows.{number, IsRow, AreRows, AreProducts}
use Rattle.gf_lanes.proofs.Products.{times_sixteen_is}

pub number_low : (k : ℕ) → k < 16 → number k ≡ k
unfolding number
number_low k h = rw (lt-ltb k 16 h) refl

pub number_high : (k : ℕ) → number (16 + k) ≡ 16 * k
unfolding number
number_high k =
    let h : 16 ≤ 16 + k = omega arith in
    let e : 16 + k - 16 ≡ k = omega arith in
    rw (le-ltb (16 + k) 16 h, e) refl

-- ---- reading a row
pub low_at : (bytes : List ℕ) (c v : ℕ) → AreProducts bytes → c < 256 → get_or bytes (32 * c + v % 16 % 16) 0 ≡ product c (v % 16)
low_at bytes c v table h =
    ap (λ i. get_or bytes (32 * c + i) 0) (let e : v % 16 % 16 ≡ v % 16 = omega arith in e)
    ∙ table.rows c h (v % 16) (omega arith) ∙ ap (product c) (number_low (v % 16) (omega arith))

pub high_at : (bytes : List ℕ) (c v : ℕ) → AreProducts bytes → c < 256 → v < 256 → get_or bytes (32 * c + 16 + v / 16 % 16) 0 ≡ product c (16 * (v / 16))
high_at bytes c v table h hv =
    ap (λ i. get_or bytes i 0) (let e : 32 * c + 16 + v / 16 % 16 ≡ 32 * c + (16 + v / 16) = omega arith in e)
    ∙ table.rows c h (16 + v / 16) (omega arith) ∙ ap (product c) (number_high (v / 16))

-- ---- writing a row
pub row_of_halves : (now between old low high : List ℕ) (c d : ℕ) → d ≡ product c 16
    → ((k : ℕ) → k < 16 → get_or low k 0 ≡ product c k) → ((k : ℕ) → k < 16 → get_or high k 0 ≡ product d k)
    → ((k : ℕ) → k < 16 → get_or between (32 * c + k) 0 ≡ get_or low k 0)
    → ((k : ℕ) → k < 16 → get_or now (32 * c + 16 + k) 0 ≡ get_or high k 0)
    → ((k : ℕ) → k < 32 * c + 16 → get_or now k 0 ≡ get_or between k 0)
    → IsRow now c
row_of_halves now between old low high c d ed hl hh first second front = λ k l.
    elim (cases_lt k 16) [
      | inl lt ↦ front (32 * c + k) (omega arith) ∙ first k lt ∙ hl k lt ∙ sym (ap (product c) (number_low k lt))
      | inr ge ↦
          let at : 32 * c + 16 + (k - 16) ≡ 32 * c + k = omega arith in
          let this : 16 + (k - 16) ≡ k = omega arith in
          let lt : k - 16 < 16 = omega arith in
          subst (λ i. get_or now i 0 ≡ get_or high (k - 16) 0) at (second (k - 16) lt)
          ∙ hh (k - 16) lt ∙ ap (λ x. product x (k - 16)) ed ∙ times_sixteen_is c (k - 16) lt
          ∙ ap (product c) (sym (number_high (k - 16)) ∙ ap number this)
    ]

-- a row less stays a row, where the bytes below it stay
pub rows_stay : (now old : List ℕ) (n : ℕ) → AreRows old n → ((k : ℕ) → k < 32 * n → get_or now k 0 ≡ get_or old k 0) → AreRows now n
rows_stay now old n rows front = λ c lc k lk. front (32 * c + k) (omega arith) ∙ rows c lc k lk

pub rows_more : (now : List ℕ) (n : ℕ) → AreRows now n → IsRow now n → AreRows now (n + 1)
rows_more now n rows row = λ c lc.
    elim (cases_lt c n) [
      | inl lt ↦ rows c lt
      | inr ge ↦ subst (λ m. IsRow now m) (let e : n ≡ c = omega arith in e) row
    ]

-- the sum of the row of a power of 2 and that of a smaller byte
pub row_of_sum : (now old : List ℕ) (a b bit : ℕ) → a ≡ 2 ^ bit → b < 2 ^ bit → IsRow old a → IsRow old b
    → ((k : ℕ) → k < 32 → get_or now (32 * (a + b) + k) 0 ≡ bit_xor (get_or old (32 * a + k) 0) (get_or old (32 * b + k) 0))
    → IsRow now (a + b)
row_of_sum now old a b bit power below ra rb both = λ k l.
    let one : 1 * 2 ^ bit ≡ a = omega arith in
    let whole : bit_xor a b ≡ a + b = (λ i. bit_xor (sym one i) b) ∙ xor_shifted 1 bit b below ∙ ap (λ x. x + b) one in
    both k l ∙ (λ i. bit_xor (ra k l i) (rb k l i)) ∙ sym (product_sum_l a b (number k)) ∙ ap (λ x. product x (number k)) whole

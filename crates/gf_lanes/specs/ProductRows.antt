-- Tables of products.
use Rattle.std.specs.Prelude.{◌≡◌, ℕ, ◌<◌, ◌≤◌, ◌+◌, ◌-◌, ◌*◌, nat_lt, if◌then◌else◌, List, length, slice_index}
use Rattle.gf256.specs.Field.{product}

-- the number that place k of a row of the table is for: a byte below 16, and from place 16 on sixteen times one
unfoldable pub number : ℕ → ℕ
number k = (if nat_lt k 16 then k else 16 * (k - 16))

-- the 32 bytes of row c are the products of c and the places' numbers
abbrev pub IsRow : List ℕ → ℕ → Type 0
IsRow bytes c = (k : ℕ) → k < 32 → slice_index bytes (32 * c + k) ≡ product c (number k)

-- the first n rows stand
abbrev pub AreRows : List ℕ → ℕ → Type 0
AreRows bytes n = (c : ℕ) → c < n → IsRow bytes c

-- a row for each byte
pub record AreProducts (bytes : List ℕ) : Type 0 where
  pub long : length bytes ≡ 8192
  pub rows : AreRows bytes 256

-- a table of products, where rows of p bytes are long enough to be summed by one
abbrev pub Serves : List ℕ → ℕ → Type 0
Serves bytes p = 32 ≤ p → AreProducts bytes

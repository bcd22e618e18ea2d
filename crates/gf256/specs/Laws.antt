-- What follows from the definition of the field.
use Rattle.std.specs.Prelude.{◌≡◌, ◌≢◌, ◌<◌, ℕ, bit_xor}
use Rattle.gf256.specs.Field.{product, inverse}

-- sums of bytes are bytes, in any order; 0 changes none, and each byte is its own negative
pub record SumsOfBytes : Type 0 where
  pub byte : (a b : ℕ) → a < 256 → b < 256 → bit_xor a b < 256
  pub order : (a b : ℕ) → bit_xor a b ≡ bit_xor b a
  pub groups : (a b c : ℕ) → bit_xor (bit_xor a b) c ≡ bit_xor a (bit_xor b c)
  pub zero : (a : ℕ) → bit_xor a 0 ≡ a
  pub negative : (a : ℕ) → bit_xor a a ≡ 0

-- products of bytes are bytes, in any order, and go over sums; 1 changes none
pub record ProductsOfBytes : Type 0 where
  pub byte : (a b : ℕ) → product a b < 256
  pub order : (a b : ℕ) → product a b ≡ product b a
  pub groups : (a b c : ℕ) → product (product a b) c ≡ product a (product b c)
  pub sums : (a b c : ℕ) → product a (bit_xor b c) ≡ bit_xor (product a b) (product a c)
  pub one : (a : ℕ) → a < 256 → product a 1 ≡ a

-- each byte but 0 has an inverse, and only one
pub record InversesOfBytes : Type 0 where
  pub byte : (a : ℕ) → inverse a < 256
  pub one : (a : ℕ) → a ≢ 0 → a < 256 → product a (inverse a) ≡ 1
  pub only : (a b : ℕ) → a ≢ 0 → a < 256 → b < 256 → product a b ≡ 1 → b ≡ inverse a

-- the bytes are a field
pub record BytesAreField : Type 0 where
  pub sums : SumsOfBytes
  pub products : ProductsOfBytes
  pub inverses : InversesOfBytes

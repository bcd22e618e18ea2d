-- Sums of parts, each times its factor.
use Rattle.std.specs.Prelude.{ℕ, zero, suc, ◌+◌, ◌*◌, List, length, slice_index, bit_xor}
use Rattle.gf256.specs.Field.{product}

-- the sum of the products of the first n factors and values
unfoldable pub sum_to : List ℕ → (ℕ → ℕ) → ℕ → ℕ
sum_to cs v zero = 0
sum_to cs v (suc k) = bit_xor (sum_to cs v k) (product (slice_index cs k) (v k))

-- the sum at place j of the parts, each times its factor, where the parts stand one after another, p bytes each
abbrev pub part_sum : List ℕ → List ℕ → ℕ → ℕ → ℕ
part_sum cs parts p j = sum_to cs (λ k. slice_index parts (k * p + j)) (length cs)

-- The length of a SHA-1 digest.
use Rattle.std.specs.Prelude.{◌≡◌, ℕ, zero, suc, ◌*◌, ◌==◌, true, false, if◌then◌else◌, List, length, slice_index, filter, refl}
use Rattle.std.proofs.Common.{arith, length-append}
use Rattle.std.specs.Int.{w32, to_be_bytes}
use Rattle.sha1.specs.Sha1.{sha1, digest_bytes}

length-word : (x : ℕ) → length (to_be_bytes w32 x) ≡ 4
length-word x = refl

length-digest_bytes : (words : List ℕ) (n : ℕ) → length (digest_bytes words n) ≡ 4 * n
unfolding digest_bytes
length-digest_bytes words zero = refl
length-digest_bytes words (suc n) =
    omega (arith, length-append (digest_bytes words n) (to_be_bytes w32 (slice_index words n)), length-word (slice_index words n), length-digest_bytes words n)

-- a digest has 20 bytes
pub length-sha1 : (bytes : List ℕ) → length (sha1 bytes) ≡ 20
unfolding sha1
length-sha1 bytes = length-digest_bytes _ 5

-- the bytes that are not ee
abbrev pub folded : List ℕ → List ℕ
folded bytes = filter (λ byte. if byte == 238 then false else true) bytes

-- A label that is copied into a room of zeros.
use Rattle.std.proofs.Common.{◌≡◌, ◌+◌, ◌-◌, ◌≤◌, ◌++◌, ℕ, List, Bool, true, false, length, drop, arith, refl, ap, ◌∙◌, ◌&&◌, nat_le, length-append}
use Rattle.std.specs.Prelude.{replicate}
use Rattle.std.proofs.Math.Seq.{take-append_seam, drop-append_seam}
use Rattle.std.proofs.lemmas.List.{drop-replicate, length-replicate}
use Rattle.std.specs.List.{list_all}
use Rattle.pond_base.specs.Label.{is_label, is_label_byte}
use Rattle.pond_base.specs.Padded.{IsPadded}

and_parts : (a b : Bool) → (a && b) ≡ true → (a ≡ true) × (b ≡ true)
and_parts true b h = (refl, h)
and_parts false b h = absurd (cc)

short : (bytes : List ℕ) → is_label bytes ≡ true → length bytes ≤ 32
short bytes is =
    let front = and_parts (nat_le 1 (length bytes) && nat_le (length bytes) 32) (list_all is_label_byte bytes) is in
    let most = and_parts (nat_le 1 (length bytes)) (nat_le (length bytes) 32) front.0 in
    grind (arith, most.1)

filled : (n : ℕ) → n ≤ 32 → n + (32 - n) ≡ 32
filled n most = omega arith

-- the label's bytes, and behind them what is left of the zeros
pub is_padded : (bytes : List ℕ) → is_label bytes ≡ true → IsPadded (bytes ++ drop (length bytes) (replicate 32 0)) (length bytes)
is_padded bytes is =
    let most : length bytes ≤ 32 = short bytes is in
    let zeros : drop (length bytes) (replicate 32 0) ≡ replicate (32 - length bytes) 0 = drop-replicate (length bytes) 32 0 in
    record {
      whole = length-append bytes (drop (length bytes) (replicate 32 0)) ∙ ap (λ xs. length bytes + length xs) zeros ∙ ap (λ n. length bytes + n) (length-replicate (32 - length bytes) 0) ∙ filled (length bytes) most;
      short = most;
      zeros = drop-append_seam bytes (drop (length bytes) (replicate 32 0)) ∙ zeros;
      label = ap is_label (take-append_seam bytes (drop (length bytes) (replicate 32 0))) ∙ is;
    }

-- A label in its room: its bytes in front, and zeros behind them.
use Rattle.std.specs.Prelude.{◌≡◌, ◌≤◌, ◌-◌, ◌++◌, ℕ, List, IsTrue, length, take, drop, replicate}
use Rattle.std.proofs.Common.{◌∙◌, ap, sym, arith, length-take-le, take-append-drop}
use Rattle.pond_base.specs.Label.{is_label}

-- a room of 32 bytes whose first ones are a label, and the others zeros
pub record IsPadded (room : List ℕ) (count : ℕ) : Type 0 where
  pub whole : length room ≡ 32
  pub short : count ≤ 32
  pub zeros : drop count room ≡ replicate (32 - count) 0
  pub label : IsTrue (is_label (take count room))

-- bytes with zeros behind them
abbrev pub padded : List ℕ → List ℕ
padded bytes = bytes ++ replicate (32 - length bytes) 0

pub length-take-padded : (room : List ℕ) (count : ℕ) → IsPadded room count → length (take count room) ≡ count
length-take-padded room count is = length-take-le count room (omega (arith, is.whole, is.short))

-- the bytes in front of such a room, padded, are the room
pub padded-take : (room : List ℕ) (count : ℕ) → IsPadded room count → padded (take count room) ≡ room
padded-take room count is =
    ap (λ n. take count room ++ replicate (32 - n) 0) (length-take-padded room count is)
    ∙ ap (λ zeros. take count room ++ zeros) (sym is.zeros)
    ∙ take-append-drop count room

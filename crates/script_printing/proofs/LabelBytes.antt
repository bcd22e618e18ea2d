-- The bytes of a label are text.
use Rattle.std.proofs.Common.{◌≡◌, ◌<◌, ℕ, zero, suc, true, ◌&&◌, nat_le, List, [], ◌∷◌, length, arith}
use Rattle.std.specs.List.{list_all}
use Rattle.std.specs.Str.{IsAscii, IsUtf8}
use Rattle.std.proofs.lemmas.Str.{IsUtf8-from_ascii}
use Rattle.std.proofs.lemmas.Bool.Decides.{nat_tests}
use Rattle.pond_base.specs.Label.{is_label, is_label_byte}
use Rattle.guarded_update.proofs.Sizes.{and_parts}

-- a letter, a digit and an underscore are ASCII
low : (byte : ℕ) → is_label_byte byte ≡ true → byte < 128
low byte is = grind (arith, nat_tests)

all_low : (bytes : List ℕ) → list_all is_label_byte bytes ≡ true → IsAscii bytes
all_low [] are i = omega arith
all_low (byte ∷ bytes) are zero = low byte (and_parts (is_label_byte byte) (list_all is_label_byte bytes) are).0
all_low (byte ∷ bytes) are (suc i) = all_low bytes (and_parts (is_label_byte byte) (list_all is_label_byte bytes) are).1 i

pub is_text : (bytes : List ℕ) → is_label bytes ≡ true → IsUtf8 bytes
is_text bytes is = IsUtf8-from_ascii bytes (all_low bytes (and_parts (nat_le 1 (length bytes) && nat_le (length bytes) 32) (list_all is_label_byte bytes) is).1)

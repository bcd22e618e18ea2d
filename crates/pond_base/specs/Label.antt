-- The label of an object.
use Rattle.std.specs.Prelude.{ℕ, Bool, List, length, nat_le, ◌==◌, ◌&&◌, ◌||◌}
use Rattle.std.specs.List.{list_all}

-- a lower case letter, a digit or an underscore
abbrev pub is_label_byte : ℕ → Bool
is_label_byte byte = (nat_le 97 byte && nat_le byte 122) || (nat_le 48 byte && nat_le byte 57) || byte == 95

-- 1 to 32 of them
abbrev pub is_label : List ℕ → Bool
is_label bytes = nat_le 1 (length bytes) && nat_le (length bytes) 32 && list_all is_label_byte bytes

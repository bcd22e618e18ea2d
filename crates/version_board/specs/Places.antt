-- Under each label, the place of its last entry.
use Rattle.std.specs.Prelude.{◌≡◌, ℕ, List, Some, slice_get, option_map}
use Rattle.std.specs.Ordering.{nat_cmp}
use Rattle.std.specs.Cmp.Lexicographic.{slice_cmp}
use Rattle.std.specs.BTreeMap.{is_at}
use Rattle.std.specs.Map.{lookup}
use Rattle.board_model.specs.Boards.{Entry, last_of}

-- the place under each label is that of its last entry, and there is one just where the list has an entry of it
abbrev pub ArePlaces : List (List ℕ × ℕ) → List Entry → Type 0
ArePlaces places list = (label : List ℕ) → option_map (slice_get list) (lookup (is_at (slice_cmp nat_cmp label)) places) ≡ option_map Some (last_of label list)

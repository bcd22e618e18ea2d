-- Lists cut into pieces.
use Rattle.std.specs.Prelude.{ℕ, List, map, length}
use Rattle.std.specs.List.{range_with_len}
use Rattle.std.specs.Fork.{slice_chunk}
use Rattle.tree_format.specs.Strings.{piece_count}

-- a list cut into pieces of one size, the last one perhaps shorter
unfoldable pub pieces : {X : Type 0} → ℕ → List X → List (List X)
pieces size xs = map (slice_chunk xs size) (range_with_len 0 (piece_count size (length xs)))

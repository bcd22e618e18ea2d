-- The nodes of the members of a ring, each at the place of its member.
use Rattle.std.specs.Prelude.{◌≡◌, ℕ, ◌<◌, true, List, length, slice_index_or, Option, None, is_some}

-- the member of this number is there and has a node
abbrev pub HasNode : {N : Type 0} → List (Option N) → ℕ → Type 0
HasNode nodes i = (i < length nodes) × (is_some (slice_index_or nodes i None) ≡ true)

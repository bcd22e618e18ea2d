-- Which contents, lists of names and roots have a string.
use Rattle.std.specs.Prelude.{◌≡◌, ℕ, ◌^◌, ◌<◌, ◌≤◌, ◌*◌, List, length}
use Rattle.std.specs.List.{AllByRecursion}
use Rattle.tree_format.specs.declared.root.Root.{Root}
use Rattle.tree_format.specs.Strings.{piece_count, height_over, no_name}

-- 1 to 8,192 bytes
abbrev pub IsContent : List ℕ → Type 0
IsContent content = (1 ≤ length content) × (length content ≤ 8192)

-- 20 bytes
abbrev pub IsName : List ℕ → Type 0
IsName name = length name ≡ 20

-- 1 to 64 names
pub record AreNames (names : List (List ℕ)) : Type 0 where
  pub some : 1 ≤ length names
  pub most : length names ≤ 64
  pub whole : AllByRecursion IsName names

-- the bytes of so many names, 1 to 64
pub record AreWhole (count : ℕ) (bytes : List ℕ) : Type 0 where
  pub some : 1 ≤ count
  pub most : count ≤ 64
  pub whole : length bytes ≡ 20 * count

-- a root whose fields fit into their places
pub record HasWidths (r : Root) : Type 0 where
  pub version : r.version.0 < 2 ^ 32
  pub bytes : r.length < 2 ^ 32
  pub block : r.block < 2 ^ 32
  pub top : IsName r.top
  pub previous : IsName r.previous

-- a root that can be a version's
pub record IsRoot (r : Root) : Type 0 where
  pub version : r.version.0 < 2 ^ 32
  pub small : r.length ≤ 1048576
  pub least : 64 ≤ r.block
  pub most : r.block ≤ 8192
  pub height : r.height ≡ height_over (piece_count r.block r.length)
  pub top : IsName r.top
  pub previous : IsName r.previous
  pub empty : r.length ≡ 0 → r.top ≡ no_name
  pub first : r.version.0 ≡ 0 → r.length ≡ 0
  pub nothing : r.version.0 ≡ 0 → r.previous ≡ no_name

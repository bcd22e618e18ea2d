-- The strings of which versions are made. Numbers are big-endian, of four bytes; a name has 20 bytes.
use Rattle.std.specs.Prelude.{ℕ, zero, suc, ◌+◌, ◌-◌, ◌/◌, List, [], ◌∷◌, ◌++◌, length, take, drop, replicate, nat_le, if◌then◌else◌}
use Rattle.std.specs.List.{flat_map}
use Rattle.std.specs.Int.{w32, to_be_bytes}
use Rattle.tree_format.specs.declared.root.Root.{Root}

-- the leaf string of a content
abbrev pub leaf_string : List ℕ → List ℕ
leaf_string content = 1 ∷ content

-- names, one after the other
abbrev pub joined_names : List (List ℕ) → List ℕ
joined_names names = flat_map (λ name. name) names

-- the inner string of names: how many they are, and the names
abbrev pub inner_string : List (List ℕ) → List ℕ
inner_string names = 2 ∷ length names ∷ joined_names names

-- the root string of a root
abbrev pub root_string : Root → List ℕ
root_string r =
    3 ∷ to_be_bytes w32 r.version.0 ++ to_be_bytes w32 r.length ++ to_be_bytes w32 r.block ++ r.height ∷ r.top ++ r.previous

-- the label string of a label
abbrev pub label_string : List ℕ → List ℕ
label_string label = 7 ∷ label

-- what stands where there is no name
abbrev pub no_name : List ℕ
no_name = replicate 20 0

-- so many names, from the front of bytes
abbrev pub names_in : ℕ → List ℕ → List (List ℕ)
names_in zero bytes = []
names_in (suc count) bytes = take 20 bytes ∷ names_in count (drop 20 bytes)

-- how many pieces of a size so many items make, the last piece perhaps shorter
abbrev pub piece_count : ℕ → ℕ → ℕ
piece_count size count = (count + size - 1) / size

-- how many levels of inner strings stand over so many leaves
abbrev pub height_over : ℕ → ℕ
height_over leaves = if nat_le leaves 1 then 0 else (if nat_le leaves 64 then 1 else (if nat_le leaves 4096 then 2 else 3))

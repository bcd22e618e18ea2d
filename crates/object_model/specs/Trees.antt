-- The strings of versions. The versions of an object are a list of byte strings, the newest first, that ends with the empty
-- one. Throughout, h names byte strings, and block is how many bytes a whole leaf has.
use Rattle.std.specs.Prelude.{ℕ, zero, suc, Bool, List, [], ◌∷◌, ◌++◌, map, length, nat_lt, ◌*◌, Option, Some, None, if◌then◌else◌}
use Rattle.std.specs.List.{flat_map, fold, list_any}
use Rattle.std.specs.Str.{bytes_eq}
use Rattle.std.specs.Fork.{slice_chunk}
use Rattle.tree_format.specs.declared.root.Root.{Root}
use Rattle.tree_format.specs.Strings.{leaf_string, inner_string, root_string, label_string, no_name, height_over}
use Rattle.object_model.specs.Pieces.{pieces}

-- the leaf strings of a content, from the left
abbrev pub leaf_row : ℕ → List ℕ → List (List ℕ)
leaf_row block content = map leaf_string (pieces block content)

-- the inner strings over a row of strings: 64 names in each, from the left
abbrev pub row_above : (List ℕ → List ℕ) → List (List ℕ) → List (List ℕ)
row_above h row = map inner_string (pieces 64 (map h row))

-- a row of strings, and so many rows above it
abbrev pub rows_from : (List ℕ → List ℕ) → ℕ → List (List ℕ) → List (List (List ℕ))
rows_from h zero row = row ∷ []
rows_from h (suc levels) row = row ∷ rows_from h levels (row_above h row)

-- how many levels of inner strings a content has
abbrev pub height_of : ℕ → List ℕ → ℕ
height_of block content = height_over (length (leaf_row block content))

-- the rows of strings of a content: its leaves, and then level by level
abbrev pub rows_of : (List ℕ → List ℕ) → ℕ → List ℕ → List (List (List ℕ))
rows_of h block content = rows_from h (height_of block content) (leaf_row block content)

-- the strings of a content, row by row
abbrev pub strings_of : (List ℕ → List ℕ) → ℕ → List ℕ → List (List ℕ)
strings_of h block content = flat_map (λ row. row) (rows_of h block content)

-- the name of the last string, and zero bytes where there is none
abbrev pub last_name : (List ℕ → List ℕ) → List (List ℕ) → List ℕ
last_name h strings = fold (λ name string. h string) no_name strings

-- the root of a version, by its number and the name of the version before
abbrev pub root_after : (List ℕ → List ℕ) → ℕ → ℕ → List ℕ → List ℕ → Root
root_after h block number previous content = record {
  version = record { 0 = number };
  length = length content;
  block = block;
  height = height_of block content;
  top = last_name h (strings_of h block content);
  previous = previous;
}

-- the name of the newest version, which is the name of its root string
abbrev pub version_name : (List ℕ → List ℕ) → ℕ → List (List ℕ) → List ℕ
version_name h block [] = no_name
version_name h block (content ∷ older) = h (root_string (root_after h block (length older) (version_name h block older) content))

-- the root of a version over the older ones
abbrev pub root_of : (List ℕ → List ℕ) → ℕ → List ℕ → List (List ℕ) → Root
root_of h block content older = root_after h block (length older) (version_name h block older) content

-- all strings of a version: those of its content, and its root string
abbrev pub version_strings : (List ℕ → List ℕ) → ℕ → List ℕ → List (List ℕ) → List (List ℕ)
version_strings h block content older = strings_of h block content ++ root_string (root_of h block content older) ∷ []

-- all strings of all versions, the oldest version first
abbrev pub strings_so_far : (List ℕ → List ℕ) → ℕ → List (List ℕ) → List (List ℕ)
strings_so_far h block [] = []
strings_so_far h block (content ∷ older) = strings_so_far h block older ++ version_strings h block content older

-- whether a string is one of a list
abbrev pub stands_in : List ℕ → List (List ℕ) → Bool
stands_in string strings = list_any (bytes_eq string) strings

-- the strings that are not among the known ones, each at its first place alone
abbrev pub first_times : List (List ℕ) → List (List ℕ) → List (List ℕ)
first_times known [] = []
first_times known (string ∷ strings) =
    if stands_in string known then first_times known strings else string ∷ first_times (string ∷ known) strings

-- the strings of a version that no older one has
abbrev pub new_strings : (List ℕ → List ℕ) → ℕ → List ℕ → List (List ℕ) → List (List ℕ)
new_strings h block content older = first_times (strings_so_far h block older) (version_strings h block content older)

-- the name of the leaf string at a place counted from 0, where there is one
abbrev pub leaf_name_of : (List ℕ → List ℕ) → ℕ → List ℕ → ℕ → Option (List ℕ)
leaf_name_of h block content place =
    if nat_lt (place * block) (length content) then Some (h (leaf_string (slice_chunk content block place))) else None

-- the name of the object of a label
abbrev pub object_name : (List ℕ → List ℕ) → List ℕ → List ℕ
object_name h label = h (label_string label)

-- What the archive of a version is. The versions of an object are a list of byte strings, the newest first, that ends with
-- the empty one, version 0. Throughout, h names byte strings, and block is how many bytes a whole leaf has.
use Rattle.std.specs.Prelude.{ℕ, Bool, false, List, [], ◌∷◌, map, length, nat_le, Option, Some, None}
use Rattle.std.specs.List.{flat_map, range_with_len}
use Rattle.cauchy_code.specs.Code.{Parameters, row}
use Rattle.object_model.specs.Trees.{new_strings}
use Rattle.manifest.specs.declared.manifest.Entry.{Entry}
use Rattle.manifest.specs.declared.manifest.Manifest.{Manifest}
use Rattle.manifest.specs.Spelling.{manifest_string}

-- whether a version is archived by the systematic code: from a number on, where there is one
abbrev pub is_newer : Option ℕ → ℕ → Bool
is_newer None version = false
is_newer (Some first) version = nat_le first version

-- the code of a version, by its own number alone
abbrev pub code_for : ℕ → ℕ → Option ℕ → ℕ → Parameters
code_for m n newer version = record { m = m; n = n; systematic = is_newer newer version }

-- the fragments of a string: the kind 4, the index, and the row of that index
abbrev pub fragments_of : Parameters → List ℕ → List (List ℕ)
fragments_of code string = map (λ i. 4 ∷ i ∷ row code string i) (range_with_len 0 code.n)

-- a string with its length and the names of its fragments
abbrev pub entry_of : (List ℕ → List ℕ) → Parameters → List ℕ → Entry
entry_of h code string = record { name = h string; length = length string; fragments = map h (fragments_of code string) }

-- the manifest of a version that lists these strings
abbrev pub manifest_listing : (List ℕ → List ℕ) → Parameters → ℕ → List ℕ → List (List ℕ) → Manifest
manifest_listing h code version object strings =
    record { systematic = code.systematic; m = code.m; n = code.n; version = record { 0 = version }; object = object; entries = map (entry_of h code) strings }

-- the strings that the newest version lists: those that no older one has, each once
abbrev pub listed : (List ℕ → List ℕ) → ℕ → List (List ℕ) → List (List ℕ)
listed h block [] = []
listed h block (content ∷ older) = new_strings h block content older

-- the number of the newest version
abbrev pub number_of : List (List ℕ) → ℕ
number_of [] = 0
number_of (content ∷ older) = length older

-- the manifest string of the newest version, by the code of its own number
abbrev pub manifest_for : (List ℕ → List ℕ) → ℕ → ℕ → ℕ → Option ℕ → List ℕ → List (List ℕ) → List ℕ
manifest_for h block m n newer object versions =
    manifest_string (manifest_listing h (code_for m n newer (number_of versions)) (number_of versions) object (listed h block versions))

-- the fragments of the strings that the newest version lists, string by string
abbrev pub fragments_for : (List ℕ → List ℕ) → ℕ → ℕ → ℕ → Option ℕ → List (List ℕ) → List (List ℕ)
fragments_for h block m n newer versions = flat_map (fragments_of (code_for m n newer (number_of versions))) (listed h block versions)

-- The bytes that spell a manifest. Numbers are big-endian, of four bytes, where nothing else is said.
use Rattle.std.specs.Prelude.{ℕ, Bool, List, [], ◌∷◌, ◌++◌, length, if◌then◌else◌}
use Rattle.std.specs.List.{flat_map}
use Rattle.std.specs.Int.{w32, to_be_bytes}
use Rattle.manifest.specs.declared.manifest.Entry.{Entry}
use Rattle.manifest.specs.declared.manifest.Head.{Head}
use Rattle.manifest.specs.declared.manifest.Manifest.{Manifest}

abbrev pub number : ℕ → List ℕ
number n = to_be_bytes w32 n

-- a name is spelled by its own 20 bytes
abbrev pub name_string : List ℕ → List ℕ
name_string name = name

-- an entry: its name, its length, the names of its fragments
abbrev pub entry_string : Entry → List ℕ
entry_string e = e.name ++ (number e.length ++ flat_map name_string e.fragments)

-- the code: 1, or 2 and 2 where it is systematic
abbrev pub code_string : Bool → List ℕ
code_string systematic = if systematic then 2 ∷ 2 ∷ [] else 1 ∷ []

-- what stands in front of the entries: the kind 5, the code, m and n in a byte each, the version, the object's name, the count of entries
abbrev pub head_string : Head → List ℕ
head_string h = 5 ∷ (code_string h.systematic ++ (h.m ∷ h.n ∷ (number h.version.0 ++ (h.object ++ number h.count))))

-- what stands in front of the entries of a manifest
abbrev pub head_of : Manifest → Head
head_of m = record { systematic = m.systematic; m = m.m; n = m.n; version = m.version; object = m.object; count = length m.entries }

-- a manifest: what stands in front, and the entries
abbrev pub manifest_string : Manifest → List ℕ
manifest_string m = head_string (head_of m) ++ flat_map entry_string m.entries

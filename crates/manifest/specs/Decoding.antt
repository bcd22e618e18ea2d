-- The manifest that a string spells.
use Rattle.std.specs.Prelude.{ℕ, zero, suc, ◌+◌, ◌*◌, Bool, true, false, ◌&&◌, ◌==◌, List, [], ◌∷◌, Option, Some, None, length, take, drop, slice_index, if◌then◌else◌}
use Rattle.std.specs.Int.{w32, from_be_bytes}
use Rattle.std.specs.Str.{bytes_eq}
use Rattle.manifest.specs.declared.manifest.Entry.{Entry}
use Rattle.manifest.specs.declared.manifest.Head.{Head}
use Rattle.manifest.specs.declared.manifest.Manifest.{Manifest}
use Rattle.manifest.specs.Grammar.{is_manifest}
use Rattle.manifest.specs.Spelling.{head_string, manifest_string}

-- the number in the four bytes at a place
abbrev pub number_at : List ℕ → ℕ → ℕ
number_at bytes place = from_be_bytes w32 (take 4 (drop place bytes))

-- what the fields behind the code say
abbrev pub head_behind : Bool → List ℕ → Head
head_behind systematic bytes = record {
  systematic = systematic;
  m = slice_index bytes 0;
  n = slice_index bytes 1;
  version = record { 0 = number_at bytes 2 };
  object = take 20 (drop 6 bytes);
  count = number_at bytes 26;
}

-- what stands in front of the entries: a byte 1 behind the kind is the first form
unfoldable pub head_in : List ℕ → Head
head_in bytes = if slice_index bytes 1 == 1 then head_behind false (drop 2 bytes) else head_behind true (drop 3 bytes)

-- so many names
unfoldable pub names_in : ℕ → List ℕ → List (List ℕ)
names_in zero bytes = []
names_in (suc count) bytes = take 20 bytes ∷ names_in count (drop 20 bytes)

-- the entry in front, with n fragments
unfoldable pub entry_in : ℕ → List ℕ → Entry
entry_in n bytes = record { name = take 20 bytes; length = number_at bytes 20; fragments = names_in n (drop 24 bytes) }

-- so many entries with n fragments
unfoldable pub entries_in : ℕ → ℕ → List ℕ → List Entry
entries_in n zero bytes = []
entries_in n (suc count) bytes = entry_in n bytes ∷ entries_in n count (drop (24 + 20 * n) bytes)

-- what is in front, and the entries
abbrev pub manifest_of : Head → List Entry → Manifest
manifest_of h entries = record { systematic = h.systematic; m = h.m; n = h.n; version = h.version; object = h.object; entries = entries }

-- what stands at the places of a manifest's fields
unfoldable pub decoded : List ℕ → Manifest
decoded bytes = let h = head_in bytes in manifest_of h (entries_in h.n h.count (drop (length (head_string h)) bytes))

-- the manifest that the bytes spell as a whole: the one at its places, where it is in the grammar and spelled by just these bytes
unfoldable pub manifest_in : List ℕ → Option Manifest
manifest_in bytes = let m = decoded bytes in if is_manifest m && bytes_eq (manifest_string m) bytes then Some m else None

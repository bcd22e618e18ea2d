-- Reading and writing turn each other back.
use Rattle.std.specs.Prelude.{◌≡◌, ℕ, List, Some, IsTrue}
use Rattle.manifest.specs.declared.manifest.Manifest.{Manifest}
use Rattle.manifest.specs.Decoding.{manifest_in}
use Rattle.manifest.specs.Grammar.{is_manifest}
use Rattle.manifest.specs.Spelling.{manifest_string}

-- what is written is read again
abbrev pub WrittenThenRead : Type 0
WrittenThenRead = (m : Manifest) → IsTrue (is_manifest m) → manifest_in (manifest_string m) ≡ Some m

-- what is read is a manifest in the grammar, and written by the same bytes
abbrev pub ReadThenWritten : Type 0
ReadThenWritten = (bytes : List ℕ) (m : Manifest) → manifest_in bytes ≡ Some m → IsTrue (is_manifest m) × (manifest_string m ≡ bytes)

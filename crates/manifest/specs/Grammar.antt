-- Which manifests have a spelling, and the look-up of an entry.
use Rattle.std.specs.Prelude.{ℕ, ◌^◌, Bool, ◌&&◌, ◌==◌, nat_le, nat_lt, List, Option, length}
use Rattle.std.specs.List.{list_all, find}
use Rattle.std.specs.Str.{bytes_eq}
use Rattle.manifest.specs.declared.manifest.Entry.{Entry}
use Rattle.manifest.specs.declared.manifest.Head.{Head}
use Rattle.manifest.specs.declared.manifest.Manifest.{Manifest}
use Rattle.manifest.specs.Spelling.{head_of}

-- a name has 20 bytes
abbrev pub is_name : List ℕ → Bool
is_name name = length name == 20

-- an entry has a length from 1 on, of four bytes, and the names of n fragments
abbrev pub is_entry : ℕ → Entry → Bool
is_entry n e = is_name e.name && nat_le 1 e.length && nat_lt e.length (2 ^ 32) && length e.fragments == n && list_all is_name e.fragments

-- 1 <= m <= 32, m <= n <= 64, and a version from 1 on; the version and the count have four bytes
abbrev pub is_head : Head → Bool
is_head h = nat_le 1 h.m && nat_le h.m 32 && nat_le h.m h.n && nat_le h.n 64 && nat_le 1 h.version.0 && nat_lt h.version.0 (2 ^ 32) && is_name h.object && nat_lt h.count (2 ^ 32)

-- a manifest in the grammar
abbrev pub is_manifest : Manifest → Bool
is_manifest m = is_head (head_of m) && list_all (is_entry m.n) m.entries

-- the first entry of a name
abbrev pub entry_named : List Entry → List ℕ → Option Entry
entry_named entries name = find (λ (e : Entry). bytes_eq e.name name) entries

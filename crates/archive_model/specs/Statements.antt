-- What holds of the manifests of versions.
use Rattle.std.specs.Prelude.{◌≡◌, ◌≤◌, ◌<◌, ◌^◌, ℕ, Bool, ◌&&◌, List, ◌∷◌, Option, Some, IsTrue, length, nat_le, nat_lt}
use Rattle.std.specs.List.{list_all, find}
use Rattle.std.specs.Option.{option_map}
use Rattle.std.specs.Str.{bytes_eq}
use Rattle.cauchy_code.specs.Code.{Parameters}
use Rattle.manifest.specs.Grammar.{is_manifest, entry_named}
use Rattle.manifest.specs.Decoding.{manifest_in}
use Rattle.object_model.specs.Trees.{new_strings}
use Rattle.object_model.specs.Updates.{largest}
use Rattle.archive_model.specs.Listings.{code_for, entry_of, manifest_listing, manifest_for}

-- a string that can be listed: not empty, and of a length of four bytes
abbrev pub is_listable : List ℕ → Bool
is_listable string = nat_le 1 (length string) && nat_lt (length string) (2 ^ 32)

-- The numbers of a code: 1 <= m <= 32 and m <= n <= 64.
pub record IsCode (code : Parameters) : Type 0 where
  pub least : 1 ≤ code.m
  pub most : code.m ≤ 32
  pub rows : code.m ≤ code.n
  pub high : code.n ≤ 64

-- The manifest of a version from 1 on that lists such strings is in the grammar.
abbrev pub ManifestsFit : Type 0
ManifestsFit = (h : List ℕ → List ℕ) (code : Parameters) (version : ℕ) (object : List ℕ) (strings : List (List ℕ)) → ((string : List ℕ) → length (h string) ≡ 20) → IsCode code
    → 1 ≤ version → version < 2 ^ 32 → length object ≡ 20 → length strings < 2 ^ 32 → IsTrue (list_all is_listable strings) → IsTrue (is_manifest (manifest_listing h code version object strings))

-- Under a name a manifest lists the first of its strings that has the name.
abbrev pub ListedByName : Type 0
ListedByName = (h : List ℕ → List ℕ) (code : Parameters) (version : ℕ) (object : List ℕ) (strings : List (List ℕ)) (name : List ℕ)
    → entry_named (manifest_listing h code version object strings).entries name ≡ option_map (entry_of h code) (find (λ string. bytes_eq (h string) name) strings)

-- The manifest string of a version from 1 on, within the limits, is read as the manifest that lists what no older version has, by the code of its number.
abbrev pub ManifestsAreRead : Type 0
ManifestsAreRead = (h : List ℕ → List ℕ) (block m n : ℕ) (newer : Option ℕ) (object content : List ℕ) (older : List (List ℕ)) → ((string : List ℕ) → length (h string) ≡ 20)
    → 64 ≤ block → block ≤ 8192 → IsCode (code_for m n newer (length older)) → length object ≡ 20 → length content ≤ largest → 1 ≤ length older → length older < 2 ^ 32
    → manifest_in (manifest_for h block m n newer object (content ∷ older))
    ≡ Some (manifest_listing h (code_for m n newer (length older)) (length older) object (new_strings h block content older))

-- The manifests of versions are in the grammar, and list strings by their names.
use Rattle.std.proofs.Common.{◌≡◌, ◌≤◌, ◌<◌, ◌^◌, ℕ, Bool, true, false, IsTrue, List, [], ◌∷◌, map, length, nat_le, nat_lt, if◌then◌else◌, Option, Some, refl, sym, subst, ◌∙◌}
use Rattle.std.specs.List.{list_all, find}
use Rattle.std.proofs.lemmas.List.{length-map}
use Rattle.std.proofs.lemmas.List.FromFn.{length-map-range_with_len}
use Rattle.std.specs.Option.{option_map}
use Rattle.std.specs.Str.{bytes_eq}
use Rattle.cauchy_code.specs.Code.{Parameters, row}
use Rattle.manifest.specs.declared.manifest.Entry.{Entry}
use Rattle.manifest.specs.Spelling.{head_of}
use Rattle.manifest.specs.Grammar.{is_name, is_entry, is_manifest, entry_named}
use Rattle.manifest.proofs.Parts.{and_parts, both, le_of, lt_of, is_same, IsHead, entry_whole, head_whole, manifest_whole}
use Rattle.archive_model.specs.Listings.{fragments_of, entry_of, manifest_listing}
use Rattle.archive_model.specs.Statements.{is_listable, IsCode}

all_names : (h : List ℕ → List ℕ) → ((s : List ℕ) → length (h s) ≡ 20) → (strings : List (List ℕ)) → IsTrue (list_all is_name (map h strings))
all_names h long [] = refl
all_names h long (s ∷ strings) = both (is_name (h s)) (list_all is_name (map h strings)) (is_same (length (h s)) 20 (long s)) (all_names h long strings)

entry_fits : (h : List ℕ → List ℕ) (code : Parameters) (s : List ℕ) → ((s : List ℕ) → length (h s) ≡ 20) → IsTrue (is_listable s) → IsTrue (is_entry code.n (entry_of h code s))
entry_fits h code s long is =
    let parts = and_parts (nat_le 1 (length s)) (nat_lt (length s) (2 ^ 32)) is in
    entry_whole code.n (entry_of h code s) record {
      name = long s;
      some = le_of 1 (length s) parts.0;
      small = lt_of (length s) (2 ^ 32) parts.1;
      count = length-map (fragments_of code s) h ∙ length-map-range_with_len (λ i. 4 ∷ i ∷ row code s i) 0 code.n;
      fragments = all_names h long (fragments_of code s);
    }

entries_fit : (h : List ℕ → List ℕ) (code : Parameters) (strings : List (List ℕ)) → ((s : List ℕ) → length (h s) ≡ 20) → IsTrue (list_all is_listable strings) → IsTrue (list_all (is_entry code.n) (map (entry_of h code) strings))
entries_fit h code [] long all = refl
entries_fit h code (s ∷ strings) long all =
    let parts = and_parts (is_listable s) (list_all is_listable strings) all in
    both (is_entry code.n (entry_of h code s)) (list_all (is_entry code.n) (map (entry_of h code) strings)) (entry_fits h code s long parts.0) (entries_fit h code strings long parts.1)

pub manifest_fits : (h : List ℕ → List ℕ) (code : Parameters) (version : ℕ) (object : List ℕ) (strings : List (List ℕ)) → ((s : List ℕ) → length (h s) ≡ 20) → IsCode code
    → 1 ≤ version → version < 2 ^ 32 → length object ≡ 20 → length strings < 2 ^ 32 → IsTrue (list_all is_listable strings) → IsTrue (is_manifest (manifest_listing h code version object strings))
manifest_fits h code version object strings long is first small name few all =
    let head : IsHead (head_of (manifest_listing h code version object strings)) = record {
      least = is.least;
      most = is.most;
      rows = is.rows;
      high = is.high;
      first = first;
      version = small;
      object = name;
      count = subst (λ k. k < 2 ^ 32) (sym (length-map strings (entry_of h code))) few;
    } in
    manifest_whole (manifest_listing h code version object strings) (head_whole (head_of (manifest_listing h code version object strings)) head) (entries_fit h code strings long all)

found_by : (h : List ℕ → List ℕ) (code : Parameters) (s : List ℕ) (b : Bool) (more : Option Entry) (found : Option (List ℕ)) → more ≡ option_map (entry_of h code) found
    → (if b then Some (entry_of h code s) else more) ≡ option_map (entry_of h code) (if b then Some s else found)
found_by h code s true more found e = refl
found_by h code s false more found e = e

pub found_by_name : (h : List ℕ → List ℕ) (code : Parameters) (strings : List (List ℕ)) (name : List ℕ)
    → entry_named (map (entry_of h code) strings) name ≡ option_map (entry_of h code) (find (λ s. bytes_eq (h s) name) strings)
found_by_name h code [] name = refl
found_by_name h code (s ∷ strings) name = found_by h code s (bytes_eq (h s) name) _ _ (found_by_name h code strings name)

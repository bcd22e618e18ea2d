-- What stands at the places of a manifest's string is that manifest.
use Rattle.std.proofs.Common.{◌≡◌, ℕ, ◌+◌, ◌*◌, ◌&&◌, Bool, true, false, IsTrue, List, [], ◌∷◌, ◌++◌, Option, Some, None, length, take, drop, if◌then◌else◌, refl, ap, sym, subst, ◌∙◌, append_assoc, length-append, arith}
use Rattle.std.specs.Int.{w32, from_be_bytes}
use Rattle.std.specs.List.{flat_map, list_all}
use Rattle.std.specs.Str.{bytes_eq}
use Rattle.std.proofs.lemmas.Nat.{from_be_bytes-to_be_bytes_4}
use Rattle.std.proofs.lemmas.Slice.Eq.{bytes_eq-Decides}
use Rattle.std.proofs.Math.Seq.{take-append_seam, drop-append_seam, drop-append-add}
use Rattle.manifest.specs.declared.manifest.Entry.{Entry}
use Rattle.manifest.specs.declared.manifest.Head.{Head}
use Rattle.manifest.specs.declared.manifest.Manifest.{Manifest}
use Rattle.manifest.specs.Spelling.{number, name_string, entry_string, code_string, head_string, head_of, manifest_string}
use Rattle.manifest.specs.Grammar.{is_name, is_entry, is_manifest}
use Rattle.manifest.specs.Decoding.{number_at, head_behind, head_in, names_in, entry_in, entries_in, manifest_of, decoded, manifest_in}
use Rattle.manifest.proofs.Parts.{and_parts, both, long, IsEntry, IsHead, entry_parts, head_parts, manifest_parts}

-- what stands in front of 20 bytes, and behind them
front : (name rest : List ℕ) → length name ≡ 20 → take 20 (name ++ rest) ≡ name
front name rest e = subst (λ k. take k (name ++ rest) ≡ name) e (take-append_seam name rest)

behind : (name rest : List ℕ) → length name ≡ 20 → drop 20 (name ++ rest) ≡ rest
behind name rest e = subst (λ k. drop k (name ++ rest) ≡ rest) e (drop-append_seam name rest)

further : (name rest : List ℕ) → length name ≡ 20 → drop 24 (name ++ rest) ≡ drop 4 rest
further name rest e = subst (λ k. drop (k + 4) (name ++ rest) ≡ drop 4 rest) e (drop-append-add name rest 4)

names_again : (names : List (List ℕ)) (rest : List ℕ) → IsTrue (list_all is_name names) → names_in (length names) (flat_map name_string names ++ rest) ≡ names
unfolding names_in
names_again [] rest all = refl
names_again (name ∷ names) rest all =
    let parts = and_parts (is_name name) (list_all is_name names) all in
    let here : flat_map name_string (name ∷ names) ++ rest ≡ name ++ (flat_map name_string names ++ rest) = append_assoc name (flat_map name_string names) rest in
    ap (λ t. take 20 t ∷ names_in (length names) (drop 20 t)) here
    ∙ ap (λ t. t ∷ names_in (length names) (drop 20 (name ++ (flat_map name_string names ++ rest)))) (front name (flat_map name_string names ++ rest) (long name parts.0))
    ∙ ap (λ t. name ∷ names_in (length names) t) (behind name (flat_map name_string names ++ rest) (long name parts.0))
    ∙ ap (λ t. name ∷ t) (names_again names rest parts.1)

names_long : (names : List (List ℕ)) → IsTrue (list_all is_name names) → length (flat_map name_string names) ≡ 20 * length names
names_long [] all = refl
names_long (name ∷ names) all =
    let parts = and_parts (is_name name) (list_all is_name names) all in
    omega (arith, length-append name (flat_map name_string names), long name parts.0, names_long names parts.1)

entry_long : (n : ℕ) (e : Entry) → IsEntry n e → length (entry_string e) ≡ 24 + 20 * n
entry_long n e is = omega (arith, length-append e.name (number e.length ++ flat_map name_string e.fragments), is.name, names_long e.fragments is.fragments, is.count)

abbrev entry_with : List ℕ → ℕ → List (List ℕ) → Entry
entry_with name size fragments = record { name = name; length = size; fragments = fragments }

entry_again : (n : ℕ) (e : Entry) (rest : List ℕ) → IsEntry n e → entry_in n (entry_string e ++ rest) ≡ e
unfolding entry_in
entry_again n e rest is =
    let tail : List ℕ = flat_map name_string e.fragments ++ rest in
    let here : entry_string e ++ rest ≡ e.name ++ (number e.length ++ tail) = append_assoc e.name (number e.length ++ flat_map name_string e.fragments) rest in
    ap (entry_in n) here
    ∙ ap (λ t. entry_with t (number_at (e.name ++ (number e.length ++ tail)) 20) (names_in n (drop 24 (e.name ++ (number e.length ++ tail))))) (front e.name (number e.length ++ tail) is.name)
    ∙ ap (λ t. entry_with e.name (from_be_bytes w32 (take 4 t)) (names_in n (drop 24 (e.name ++ (number e.length ++ tail))))) (behind e.name (number e.length ++ tail) is.name)
    ∙ ap (λ k. entry_with e.name k (names_in n (drop 24 (e.name ++ (number e.length ++ tail))))) (from_be_bytes-to_be_bytes_4 e.length is.small)
    ∙ ap (λ t. entry_with e.name e.length (names_in n t)) (further e.name (number e.length ++ tail) is.name)
    ∙ ap (λ k. entry_with e.name e.length (names_in k tail)) (sym is.count)
    ∙ ap (λ t. entry_with e.name e.length t) (names_again e.fragments rest is.fragments)

entries_again : (n : ℕ) (es : List Entry) → IsTrue (list_all (is_entry n) es) → entries_in n (length es) (flat_map entry_string es) ≡ es
unfolding entries_in
entries_again n [] all = refl
entries_again n (e ∷ es) all =
    let parts = and_parts (is_entry n e) (list_all (is_entry n) es) all in
    let is = entry_parts n e parts.0 in
    let rest : List ℕ = flat_map entry_string es in
    let gone : drop (24 + 20 * n) (entry_string e ++ rest) ≡ rest = subst (λ k. drop k (entry_string e ++ rest) ≡ rest) (entry_long n e is) (drop-append_seam (entry_string e) rest) in
    ap (λ t. t ∷ entries_in n (length es) (drop (24 + 20 * n) (entry_string e ++ rest))) (entry_again n e rest is)
    ∙ ap (λ t. e ∷ entries_in n (length es) t) gone
    ∙ ap (λ t. e ∷ t) (entries_again n es parts.1)

-- the fields behind the code
abbrev fields_of : Head → List ℕ → List ℕ
fields_of h rest = h.m ∷ h.n ∷ (number h.version.0 ++ (h.object ++ (number h.count ++ rest)))

abbrev head_with : Bool → ℕ → ℕ → ℕ → List ℕ → ℕ → Head
head_with systematic m n version object count = record { systematic = systematic; m = m; n = n; version = record { 0 = version }; object = object; count = count }

fields_again : (h : Head) (rest : List ℕ) → IsHead h → head_behind h.systematic (fields_of h rest) ≡ h
fields_again h rest is =
    let tail : List ℕ = number h.count ++ rest in
    ap (λ k. head_with h.systematic h.m h.n k (take 20 (h.object ++ tail)) (from_be_bytes w32 (take 4 (drop 20 (h.object ++ tail))))) (from_be_bytes-to_be_bytes_4 h.version.0 is.version)
    ∙ ap (λ t. head_with h.systematic h.m h.n h.version.0 t (from_be_bytes w32 (take 4 (drop 20 (h.object ++ tail))))) (front h.object tail is.object)
    ∙ ap (λ t. head_with h.systematic h.m h.n h.version.0 h.object (from_be_bytes w32 (take 4 t))) (behind h.object tail is.object)
    ∙ ap (λ k. head_with h.systematic h.m h.n h.version.0 h.object k) (from_be_bytes-to_be_bytes_4 h.count is.count)

coded_again : (systematic : Bool) (fields : List ℕ) → head_in (5 ∷ (code_string systematic ++ fields)) ≡ head_behind systematic fields
unfolding head_in
coded_again true fields = refl
coded_again false fields = refl

pub head_spread : (h : Head) (rest : List ℕ) → head_string h ++ rest ≡ 5 ∷ (code_string h.systematic ++ fields_of h rest)
head_spread h rest =
    ap (λ t. 5 ∷ t) (append_assoc (code_string h.systematic) _ rest
    ∙ ap (λ t. code_string h.systematic ++ (h.m ∷ h.n ∷ (number h.version.0 ++ t))) (append_assoc h.object (number h.count) rest))

head_again : (h : Head) (rest : List ℕ) → IsHead h → head_in (head_string h ++ rest) ≡ h
head_again h rest is = ap head_in (head_spread h rest) ∙ coded_again h.systematic (fields_of h rest) ∙ fields_again h rest is

decoded_again : (m : Manifest) → IsTrue (is_manifest m) → decoded (manifest_string m) ≡ m
unfolding decoded
decoded_again m is =
    let parts = manifest_parts m is in
    let rest : List ℕ = flat_map entry_string m.entries in
    ap (λ (h : Head). manifest_of h (entries_in h.n h.count (drop (length (head_string h)) (manifest_string m)))) (head_again (head_of m) rest (head_parts (head_of m) parts.0))
    ∙ ap (λ t. manifest_of (head_of m) (entries_in m.n (length m.entries) t)) (drop-append_seam (head_string (head_of m)) rest)
    ∙ ap (λ t. manifest_of (head_of m) t) (entries_again m.n m.entries parts.1)

same_bytes : (xs : List ℕ) → bytes_eq xs xs ≡ true
same_bytes xs = (bytes_eq-Decides xs xs).1 refl

-- where a decoded manifest is in the grammar and spelled by the bytes, it is the one
abbrev chosen : Manifest → List ℕ → Option Manifest
chosen m bytes = if is_manifest m && bytes_eq (manifest_string m) bytes then Some m else None

pub written_again : (m : Manifest) → IsTrue (is_manifest m) → manifest_in (manifest_string m) ≡ Some m
unfolding manifest_in
written_again m is =
    ap (λ d. chosen d (manifest_string m)) (decoded_again m is)
    ∙ ap (λ b. if b then Some m else None) (both (is_manifest m) (bytes_eq (manifest_string m) (manifest_string m)) is (same_bytes (manifest_string m)))

chosen_parts : (d m : Manifest) (bytes : List ℕ) (a b : Bool) → is_manifest d ≡ a → bytes_eq (manifest_string d) bytes ≡ b → (if a && b then Some d else None) ≡ Some m
    → IsTrue (is_manifest m) × (manifest_string m ≡ bytes)
chosen_parts d m bytes true true is same e =
    let whole : manifest_string d ≡ bytes = (bytes_eq-Decides (manifest_string d) bytes).0 same in
    let one : d ≡ m = cc in (ap is_manifest (sym one) ∙ is, ap manifest_string (sym one) ∙ whole)
chosen_parts d m bytes true false is same e = absurd (cc)
chosen_parts d m bytes false b is same e = absurd (cc)

pub read_again : (bytes : List ℕ) (m : Manifest) → manifest_in bytes ≡ Some m → IsTrue (is_manifest m) × (manifest_string m ≡ bytes)
unfolding manifest_in
read_again bytes m e = chosen_parts (decoded bytes) m bytes (is_manifest (decoded bytes)) (bytes_eq (manifest_string (decoded bytes)) bytes) refl refl e

-- bytes that spell no manifest
pub none_spelled : (bytes : List ℕ) → ((m : Manifest) → IsTrue (is_manifest m) → bytes ≡ manifest_string m → ⊥) → manifest_in bytes ≡ None
none_spelled bytes not = elim (manifest_in bytes) as (λ found. manifest_in bytes ≡ found → manifest_in bytes ≡ None) [
  | None ↦ λ e. e
  | Some m ↦ λ e. let again = read_again bytes m e in absurd (not m again.0 (sym again.1))
] refl

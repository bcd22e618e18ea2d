-- A cache of bounded size: strings under names, the most recently used first.
use Rattle.std.specs.Prelude.{ℕ, List, ◌∷◌, Option, refl, map, take}
use Rattle.std.specs.Str.{bytes_eq}
use Rattle.std.specs.Map.{lookup, lookup_entry, remove_entry}
use Rattle.std.specs.Option.{option_map_or}
use Rattle.std.specs.Coded.{Coded, code_by, coded×, coded_ℕ, coded_list}

-- pairs of name and string
abbrev pub Entries : Type 0
Entries = List (List ℕ × List ℕ)

-- the entries, and how many there may be
pub record Cached : Type 0 where
  pub entries : Entries
  pub size : ℕ

abbrev pub coded_cached : Coded Cached
coded_cached =
    code_by (Entries × ℕ) (coded× (coded_list (coded× (coded_list coded_ℕ) (coded_list coded_ℕ))) coded_ℕ)
    (λ cache. (cache.entries, cache.size)) (λ pair. record { entries = pair.0; size = pair.1 }) (λ _. refl)

-- the string under a name
abbrev pub kept_as : Entries → List ℕ → Option (List ℕ)
kept_as entries name = lookup (bytes_eq name) entries

-- the entries without the one of a name
abbrev pub without : Entries → List ℕ → Entries
without entries name = remove_entry (bytes_eq name) entries

-- a string under its name in front, what stood under the name gone, and the last ones too where there are more than the size
abbrev pub with_front : ℕ → Entries → List ℕ → List ℕ → Entries
with_front size entries name bytes = take size ((name, bytes) ∷ without entries name)

-- the entry of a name moved to the front, where there is one
abbrev pub touched : Entries → List ℕ → Entries
touched entries name = option_map_or (λ (e : List ℕ × List ℕ). e ∷ without entries name) (lookup_entry (bytes_eq name) entries) entries

-- the names, the most recently used first
abbrev pub names_of : Entries → List (List ℕ)
names_of entries = map (λ (e : List ℕ × List ℕ). e.0) entries

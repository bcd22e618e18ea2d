-- A store is the list of its pairs of name and string, in rising order of name.
use Rattle.std.specs.Prelude.{ℕ, List, [], ◌∷◌, map, bit_xor, Option, if◌then◌else◌, get_or}
use Rattle.std.specs.Option.{is_some}
use Rattle.std.specs.Ordering.{nat_cmp}
use Rattle.std.specs.Cmp.Lexicographic.{slice_cmp}
use Rattle.std.specs.List.Sorted.{IsStrictlySortedBy}
use Rattle.std.specs.Map.{lookup, keys_of}
use Rattle.std.specs.BTreeMap.{is_at, insert_entry}

abbrev pub Pairs : Type 0
Pairs = List (List ℕ × List ℕ)

-- the names rise, so that each stands once
abbrev pub AreOrdered : Pairs → Type 0
AreOrdered pairs = IsStrictlySortedBy (slice_cmp nat_cmp) (keys_of pairs)

-- the string that stands under a name
abbrev pub offered : Pairs → List ℕ → Option (List ℕ)
offered pairs name = lookup (is_at (slice_cmp nat_cmp name)) pairs

-- the string under the name, in place of what stood there
abbrev pub replaced : Pairs → List ℕ → List ℕ → Pairs
replaced pairs name bytes = insert_entry (slice_cmp nat_cmp) pairs name bytes

-- the string under the name, where nothing stands there
abbrev pub placed : Pairs → List ℕ → List ℕ → Pairs
placed pairs name bytes = if is_some (offered pairs name) then pairs else replaced pairs name bytes

-- the string with its last byte changed
abbrev pub spoiled : List ℕ → List ℕ
spoiled [] = []
spoiled (b ∷ []) = bit_xor b 1 ∷ []
spoiled (b ∷ c ∷ bytes) = b ∷ spoiled (c ∷ bytes)

-- each string with its last byte changed, under the name where it stood
abbrev pub spoil_all : Pairs → Pairs
spoil_all pairs = map (λ (p : List ℕ × List ℕ). (p.0, spoiled p.1)) pairs

-- the strings of a store
abbrev pub strings_of : Pairs → List (List ℕ)
strings_of pairs = map (λ (p : List ℕ × List ℕ). p.1) pairs

-- the strings that a spoiling makes
abbrev pub spoiled_strings : Pairs → List (List ℕ)
spoiled_strings pairs = strings_of (spoil_all pairs)

-- the store of a number
abbrev pub store_at : List Pairs → ℕ → Pairs
store_at stores number = get_or stores number []

-- the strings that a spoiling of the store of a number makes
abbrev pub spoiled_at : List Pairs → ℕ → List (List ℕ)
spoiled_at stores number = spoiled_strings (store_at stores number)

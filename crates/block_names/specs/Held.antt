-- Strings under names, as contracts see them.
use Rattle.std.specs.Prelude.{◌≡◌, ℕ, ◌+◌, ◌-◌, ◌^◌, min, List, Some, refl, is_some, if◌then◌else◌}
use Rattle.std.specs.Ordering.{nat_cmp}
use Rattle.std.specs.Cmp.Lexicographic.{slice_cmp}
use Rattle.std.specs.FinMap as map
use Rattle.std.specs.FinMap.{FinMap}
use Rattle.std.specs.Coded.{Coded, code_by, coded×, coded_ℕ, coded_list}

-- a map from names to strings
abbrev pub Held : Type 0
Held = FinMap (slice_cmp nat_cmp) (List ℕ)

abbrev pub coded_held : Coded Held
coded_held = map.code {R = slice_cmp nat_cmp} (coded_list coded_ℕ) (coded_list coded_ℕ)

-- the map that entries make
abbrev pub held_of : List (List ℕ × List ℕ) → Held
held_of entries = map.from_entries entries

-- a book: what it holds, and how often it answered a name
pub record BookView : Type 0 where
  pub held : Held
  pub namings : ℕ

abbrev pub coded_book : Coded BookView
coded_book =
    code_by (Held × ℕ) (coded× coded_held coded_ℕ) (λ book. (book.held, book.namings)) (λ pair. record { held = pair.0; namings = pair.1 }) (λ _. refl)

-- one more, up to the greatest number of 64 bits
abbrev pub one_more : ℕ → ℕ
one_more count = min (count + 1) (2 ^ 64 - 1)

-- each string that is held stands under its name
abbrev pub IsNamed : (List ℕ → List ℕ) → Held → Type 0
IsNamed h held = (name string : List ℕ) → map.get held name ≡ Some string → h string ≡ name

-- a string more, where none stands under the name
abbrev pub with_first : Held → List ℕ → List ℕ → Held
with_first held name string = if is_some (map.get held name) then held else map.insert held name string

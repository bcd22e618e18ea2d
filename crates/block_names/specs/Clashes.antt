-- Strings that are held together, and clashes among strings.
use Rattle.std.specs.Prelude.{◌≡◌, ◌≢◌, ◌⊎◌, ℕ, List, Some, All}
use Rattle.std.specs.FinMap as map
use Rattle.block_names.specs.Held.{Held}
use Rattle.block_names.specs.Growth.{Holds}
use Rattle.block_names.specs.declared.fault.NameFault.{NameFault}
use Rattle.block_names.specs.declared.fault.NameFault.TheVariants.{Clash, Memory}

-- each of the strings is held, under its name
abbrev pub AreHeld : (List ℕ → List ℕ) → Held → List (List ℕ) → Type 0
AreHeld h held strings = All (Holds h held) strings

-- two different strings of one name: the second is of a kind, and the first is held under the name or is of the kind too
abbrev pub AreClash : (List ℕ → List ℕ) → Held → (List ℕ → Type 0) → List ℕ → List ℕ → Type 0
AreClash h held Of old new = Of new × (old ≢ new) × ((map.get held (h new) ≡ Some old) ⊎ ((h new ≡ h old) × Of old))

-- no two different strings of those that are held and those of a kind have one name
abbrev pub NoneClash : (List ℕ → List ℕ) → Held → (List ℕ → Type 0) → Type 0
NoneClash h held Of = (old new : List ℕ) → AreClash h held Of old new → ⊥

-- a clash is of two different strings of one name, among those that are held and those of a kind
abbrev pub IsClashAmong : (List ℕ → List ℕ) → Held → (List ℕ → Type 0) → NameFault → Type 0
IsClashAmong h held Of (Clash old new) = AreClash h held Of old new
IsClashAmong h held Of Memory = Unit {0}

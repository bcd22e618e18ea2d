-- Strings that a book holds, and clashes among them. Throughout, h names byte strings.
use Rattle.std.specs.Prelude.{◌≡◌, ℕ, List, Some, Contains}
use Rattle.std.specs.FinMap as map
use Rattle.block_names.specs.Held.{Held}
use Rattle.block_names.specs.Growth.{Holds}
use Rattle.block_names.specs.declared.fault.NameFault.{NameFault}
use Rattle.block_names.specs.declared.fault.NameFault.TheVariants.{Clash, Memory}
use Rattle.text_model.specs.Clashes.{IsClash}

-- some strings are held, each under its name
abbrev pub HoldsAll : (List ℕ → List ℕ) → Held → List (List ℕ) → Type 0
HoldsAll h held strings = (string : List ℕ) → Contains strings string → Holds h held string

-- exactly some strings are held, each under its name
pub record HoldsJust (h : List ℕ → List ℕ) (held : Held) (strings : List (List ℕ)) : Type 0 where
  pub all : HoldsAll h held strings
  pub only : (name string : List ℕ) → map.get held name ≡ Some string → (name ≡ h string) × Contains strings string

-- a fault of naming is want of memory, or a clash among some strings
abbrev pub IsClashOf : (List ℕ → List ℕ) → List (List ℕ) → NameFault → Type 0
IsClashOf h strings (Clash old new) = IsClash h strings old new
IsClashOf h strings Memory = Unit {0}

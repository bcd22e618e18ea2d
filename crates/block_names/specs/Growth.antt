-- What a book holds after strings were named. A call that takes a book says of which strings it names
-- some: those for which `Of` holds.
use Rattle.std.specs.Prelude.{◌≡◌, ◌≢◌, ◌⊎◌, ℕ, List, [], ◌∷◌, Some}
use Rattle.std.specs.FinMap as map
use Rattle.block_names.specs.Held.{Held}
use Rattle.block_names.specs.declared.fault.NameFault.{NameFault}
use Rattle.block_names.specs.declared.fault.NameFault.TheVariants.{Clash, Memory}

-- no other string stands under the name
abbrev pub IsFree : Held → List ℕ → List ℕ → Type 0
IsFree held name string = (other : List ℕ) → map.get held name ≡ Some other → other ≡ string

-- the string is held, under its name
abbrev pub Holds : (List ℕ → List ℕ) → Held → List ℕ → Type 0
Holds h held string = map.get held (h string) ≡ Some string

-- what is held, and then the strings too, in order
abbrev pub keep_all : (List ℕ → List ℕ) → List (List ℕ) → Held → Held
keep_all h [] held = held
keep_all h (string ∷ strings) held = keep_all h strings (map.insert held (h string) string)

-- what was held is held still
abbrev pub Keeps : Held → Held → Type 0
Keeps held now = (name string : List ℕ) → map.get held name ≡ Some string → map.get now name ≡ Some string

-- what was held is held still, and beside it only strings of a kind, each under its name
pub record Grew (h : List ℕ → List ℕ) (held : Held) (Of : List ℕ → Type 0) (now : Held) : Type 0 where
  pub kept : (name string : List ℕ) → map.get held name ≡ Some string → map.get now name ≡ Some string
  pub new : (name string : List ℕ) → map.get now name ≡ Some string → (map.get held name ≡ Some string) ⊎ ((name ≡ h string) × Of string)

-- a clash is of a string of a kind with a different one of its name that is held
abbrev pub IsClashIn : (List ℕ → List ℕ) → Held → (List ℕ → Type 0) → NameFault → Type 0
IsClashIn h held Of (Clash old new) = (map.get held (h new) ≡ Some old) × (old ≢ new) × Of new
IsClashIn h held Of Memory = Unit {0}

-- a clash is of this string with a different one that stands under the name
abbrev pub IsFaultAt : Held → List ℕ → List ℕ → NameFault → Type 0
IsFaultAt held name string (Clash old new) = (map.get held name ≡ Some old) × (old ≢ string) × (new ≡ string)
IsFaultAt held name string Memory = Unit {0}

-- What a call named.
use Rattle.std.specs.Prelude.{◌≡◌, ℕ, List, Contains, Result, Ok, Err}
use Rattle.block_names.specs.Held.{Held}
use Rattle.block_names.specs.Growth.{keep_all, Grew, IsClashIn}
use Rattle.block_names.specs.Clashes.{AreHeld}
use Rattle.block_names.specs.declared.fault.NameFault.{NameFault}

-- after Ok of a call that names these strings the book holds what it held and each of them, under its name; a clash is of one of them, and nothing else is held in any case
abbrev pub Names : {X : Type 0} → (List ℕ → List ℕ) → List (List ℕ) → Held → Held → Result X NameFault → Type 0
Names h strings old new (Ok x) = (new ≡ keep_all h strings old) × Grew h old (Contains strings) new × AreHeld h new strings
Names h strings old new (Err fault) = Grew h old (Contains strings) new × IsClashIn h new (Contains strings) fault

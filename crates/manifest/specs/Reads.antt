-- What a reader answers where a spelling stands in front.
use Rattle.std.specs.Prelude.{◌≡◌, ℕ, List, Result, Ok, Err}
use Rattle.manifest.specs.declared.fault.ReadFault.{ReadFault}
use Rattle.manifest.specs.declared.fault.ReadFault.TheVariants.{Memory}

-- the value that is spelled, and what stands behind it is left; or memory ran out
abbrev pub Gets : {X : Type 0} → Result X ReadFault → List ℕ → X → List ℕ → Type 0
Gets (Ok found) left value rest = (found ≡ value) × (left ≡ rest)
Gets (Err fault) left value rest = fault ≡ Memory

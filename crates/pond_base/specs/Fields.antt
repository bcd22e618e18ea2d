-- What a reader of fields answers where a spelling stands in front.
use Rattle.std.specs.Prelude.{◌≡◌, ℕ, List, Result, Ok, Err}
use Rattle.pond_base.specs.declared.fields.Short.{Short}

-- the value that is spelled, and what stands behind it is left
abbrev pub Gives : {X : Type 0} → Result X Short → List ℕ → X → List ℕ → Type 0
Gives (Ok found) left value rest = (found ≡ value) × (left ≡ rest)
Gives (Err short) left value rest = ⊥

-- What a reader answers where a spelling stands in front.
use Rattle.std.specs.Prelude.{◌≡◌, ℕ, List, Result, Ok, Err}
use Rattle.guarded_update.specs.declared.reading.RequestFault.{RequestFault}
use Rattle.guarded_update.specs.declared.reading.RequestFault.TheVariants.{BadRequest, Memory}

-- the value that is spelled, and what stands behind it is left; or memory ran out
abbrev pub Gets : {X : Type 0} → Result X RequestFault → List ℕ → X → List ℕ → Type 0
Gets (Ok found) left value rest = (found ≡ value) × (left ≡ rest)
Gets (Err BadRequest) left value rest = ⊥
Gets (Err Memory) left value rest = Unit {0}

-- the one value that is spelled; or memory ran out
abbrev pub Finds : {X : Type 0} → Result X RequestFault → X → Type 0
Finds (Ok found) value = found ≡ value
Finds (Err BadRequest) value = ⊥
Finds (Err Memory) value = Unit {0}

-- what a reader that adds to a list has added to
abbrev pub after_adding : {X : Type 0} → Result (Unit {0}) RequestFault → X → Result X RequestFault
after_adding (Ok done) items = Ok items
after_adding (Err fault) items = Err fault

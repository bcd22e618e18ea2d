-- Which answers of a step are right. Want of memory always is.
use Rattle.std.specs.Prelude.{◌≡◌, ℕ, List, Bool, true, false, Result, Ok, Err}
use Rattle.block_names.specs.declared.fault.StepFault.{StepFault}
use Rattle.block_names.specs.declared.fault.StepFault.TheVariants.{Clash, Ended, Memory}

-- the answer is Ended exactly where the machine had ended
abbrev pub IsEndedWhere : {Said : Type 0} → Bool → Result Said StepFault → Type 0
IsEndedWhere ended (Ok said) = ended ≡ false
IsEndedWhere ended (Err (Clash old new)) = ended ≡ false
IsEndedWhere ended (Err Ended) = ended ≡ true
IsEndedWhere ended (Err Memory) = Unit {0}

-- a clash is one of these pairs, and there is none where the step is done
abbrev pub IsClashWhere : {Said : Type 0} → (List ℕ → List ℕ → Type 0) → Result Said StepFault → Type 0
IsClashWhere clashes (Ok said) = (old new : List ℕ) → clashes old new → ⊥
IsClashWhere clashes (Err (Clash old new)) = clashes old new
IsClashWhere clashes (Err Ended) = Unit {0}
IsClashWhere clashes (Err Memory) = Unit {0}

-- The letters that a member stands for.
use Rattle.std.specs.Prelude.{ℕ, List}
use Rattle.ring_model.specs.Messages.{Ring, Letter, Party}
use Rattle.ring_model.specs.World.{IsParty}
use Rattle.message_model.specs.Reading.{IsRingOf}

-- whatever letters a member stood for, and however many versions it archived, of a ring of this naming function with this party, a fact holds of them
abbrev pub ForLetters : (List ℕ → List ℕ) → Party → (Ring → ℕ → List Letter → ℕ → Type 0) → (Ring → ℕ → List Letter → ℕ → Type 0) → Type 0
ForLetters h from stands P = (g : Ring) (i : ℕ) (got : List Letter) (archived : ℕ) → IsRingOf h g → IsParty g from → stands g i got archived → P g i got archived

-- What a node stands for.
use Rattle.std.specs.Prelude.{ℕ, List}
use Rattle.block_names.specs.Held.{Held}
use Rattle.ring_model.specs.Messages.{Ring, Letter}

-- of which member of which ring a node is, for which letters it stands, and how many versions it archived
abbrev pub Standing : Type 0 → Type 1
Standing N = N → Ring → ℕ → List Letter → ℕ → Type 0

-- whether what is held has all that a node named
abbrev pub Knowing : Type 0 → Type 1
Knowing N = (List ℕ → List ℕ) → Held → N → Type 0

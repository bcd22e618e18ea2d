-- What a book holds after strings were named without a clash.
use Rattle.std.specs.Prelude.{◌≡◌, ℕ, List}
use Rattle.block_names.specs.Held.{Held}
use Rattle.block_names.specs.Growth.{keep_all}
use Rattle.block_names.specs.Clashes.{AreHeld}

-- these strings were named in order, and each is held under its name
pub record Names (h : List ℕ → List ℕ) (strings : List (List ℕ)) (before now : Held) : Type 0 where
  pub held : now ≡ keep_all h strings before
  pub all : AreHeld h now strings

-- Words and groups of them, without where they lie in memory.
use Rattle.std.specs.Prelude.{ℕ, List, [], ◌∷◌, map}
use Rattle.std.specs.Global.{Vec}
use Rattle.std.specs.Borrow.{Bor}

-- words
abbrev pub texts : List (Bor (List ℕ)) → List (List ℕ)
texts words = map (λ word. word.now) words

-- groups of words
abbrev pub groups_in : List (Bor (List (Bor (List ℕ)))) → List (List (List ℕ))
groups_in groups = map (λ group. texts group.now) groups

-- a vector of groups of words
abbrev pub groups_view : Vec (Bor (List (Bor (List ℕ)))) → List (List (List ℕ))
groups_view groups = groups_in groups.items

-- a list of one
abbrev pub one : {X : Type 0} → X → List X
one x = x ∷ []

-- Lines behind lines.
use Rattle.std.specs.Prelude.{ℕ, List, ◌++◌, ◌∷◌, map, Result, Ok}
use Rattle.script_terms.specs.declared.cause.Cause.{Cause}
use Rattle.script_terms.specs.declared.item.Item.{Item}
use Rattle.script_terms.specs.declared.item.Placed.{Placed}
use Rattle.script_grammar.specs.Results.{◌>>=◌}
use Rattle.script_grammar.specs.Script.{items}
use Rattle.script_grammar.specs.Steps.{spoken, counted}

-- the lines with what the words of one more say
abbrev pub said_after : ℕ → List Placed → List (List ℕ) → Result (List Placed) Cause
said_after number earlier words = spoken (items earlier) words >>= λ found. Ok (map (λ item. record { line = number; item = item }) found ++ earlier)

-- the lines with an item, where that passes no limit
abbrev pub placed_after : ℕ → List Placed → Item → Result (List Placed) Cause
placed_after number earlier item = counted (items earlier) item >>= λ same. Ok (record { line = number; item = same } ∷ earlier)

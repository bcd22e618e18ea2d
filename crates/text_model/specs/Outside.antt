-- What lines change outside the ring. A list of lines has the newest first.
use Rattle.std.specs.Prelude.{Bool, List, [], ◌∷◌, ◌++◌, ◌==◌, not, filter, if◌then◌else◌}
use Rattle.std.specs.List.{list_any}
use Rattle.script_terms.specs.declared.line.Line.{Line}
use Rattle.script_terms.specs.declared.line.Line.TheVariants.{Cut, Mend}
use Rattle.script_terms.specs.declared.line.Spot.{Spot}
use Rattle.script_terms.specs.declared.line.Spot.TheVariants.{Member}
use Rattle.text_model.specs.Requests.{Numbered}

-- two places are one
abbrev pub same_spot : Spot → Spot → Bool
same_spot (Member a) (Member b) = a.0 == b.0

-- a place is among those that are cut
abbrev pub is_cut : List Spot → Spot → Bool
is_cut spots spot = list_any (same_spot spot) spots

-- the places that are cut after a line, each once, in the order in which they were cut
abbrev pub cut_by : List Spot → Line → List Spot
cut_by spots (Cut spot) = if is_cut spots spot then spots else spots ++ spot ∷ []
cut_by spots (Mend spot) = filter (λ other. not (same_spot spot other)) spots
cut_by spots line = spots

-- the places that are cut after some lines
abbrev pub cut : List Numbered → List Spot
cut [] = []
cut (line ∷ earlier) = cut_by (cut earlier) line.1

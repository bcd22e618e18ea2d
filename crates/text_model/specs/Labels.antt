-- The labels of a script.
use Rattle.std.specs.Prelude.{ℕ, List, [], ◌∷◌, reverse}
use Rattle.std.specs.List.{flat_map}
use Rattle.std.specs.Ordering.{nat_cmp}
use Rattle.std.specs.Cmp.Lexicographic.{slice_cmp}
use Rattle.std.specs.BTreeSet.{insert_key}
use Rattle.script_terms.specs.declared.line.Line.{Line}
use Rattle.script_terms.specs.declared.line.Line.TheVariants.{Submit, ForgeHeart, Read, ShowVersion}
use Rattle.script_terms.specs.declared.script.Script.{Script}
use Rattle.text_model.specs.Requests.{Numbered}

-- the labels that stand in an event
abbrev pub labels_in : Line → List (List ℕ)
labels_in (Submit client label clauses) = label ∷ []
labels_in (ForgeHeart member to label version name) = label ∷ []
labels_in (Read client label) = label ∷ []
labels_in (ShowVersion member label version) = label ∷ []
labels_in line = []

-- labels in the order of their bytes, each once
abbrev pub in_order : List (List ℕ) → List (List ℕ)
in_order [] = []
in_order (label ∷ labels) = insert_key (slice_cmp nat_cmp) (in_order labels) label

-- the labels of lines, of which the newest is the first, in the order of their bytes
abbrev pub labels_of : List Numbered → List (List ℕ)
labels_of lines = in_order (flat_map (λ (line : Numbered). labels_in line.1) lines)

-- the labels of a script, in the order of their bytes
abbrev pub script_labels : Script → List (List ℕ)
script_labels script = labels_of (reverse script.lines)

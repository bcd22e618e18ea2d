-- The labels of a script, with the names of their objects. A list of lines has the newest first.
use Rattle.std.specs.Prelude.{◌≡◌, ℕ, List, map, Some}
use Rattle.std.specs.Ordering.{nat_cmp}
use Rattle.std.specs.Cmp.Lexicographic.{slice_cmp}
use Rattle.std.specs.BTreeMap.{is_at}
use Rattle.std.specs.Map.{lookup}
use Rattle.object_model.specs.Trees.{object_name}
use Rattle.text_model.specs.Labels.{labels_of}
use Rattle.text_model.specs.Requests.{Numbered}

-- these are the labels of lines, each with the name of its object
abbrev pub AreLabels : (List ℕ → List ℕ) → List (List ℕ × List ℕ) → List Numbered → Type 0
AreLabels h entries lines = entries ≡ map (λ label. (label, object_name h label)) (labels_of lines)

-- this name stands beside a label
abbrev pub HasName : List (List ℕ × List ℕ) → List ℕ → List ℕ → Type 0
HasName entries label name = lookup (is_at (slice_cmp nat_cmp label)) entries ≡ Some name

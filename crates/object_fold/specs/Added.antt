-- The strings that versions add to an object, by their names. The versions of an object are a list of byte strings, the newest first.
-- Throughout, h names byte strings, and block is how many bytes a whole leaf has.
use Rattle.std.specs.Prelude.{◌≡◌, ◌==◌, ℕ, Bool, false, List, [], ◌∷◌, ◌++◌, length, Option, Some, None, unwrap_or, if◌then◌else◌}
use Rattle.std.specs.List.{list_any}
use Rattle.std.specs.Str.{bytes_eq}
use Rattle.std.specs.Ordering.{nat_cmp}
use Rattle.std.specs.Cmp.Lexicographic.{slice_cmp}
use Rattle.std.specs.BTreeMap.{is_at}
use Rattle.std.specs.Map.{lookup}
use Rattle.object_model.specs.Trees.{new_strings, stands_in}
use Rattle.cow_tree.specs.Views.{NodeView}
use Rattle.cow_tree.specs.Rows.{nodes, names_in}
use Rattle.object_fold.specs.Views.{StringsView, AddedView}

-- an ordered set has a name
abbrev pub is_among : List ℕ → List (List ℕ) → Bool
is_among name kept = list_any (is_at (slice_cmp nat_cmp name)) kept

-- an ordered set has exactly the names of a list
abbrev pub HasJust : List (List ℕ) → List (List ℕ) → Type 0
HasJust kept names = (name : List ℕ) → is_among name kept ≡ stands_in name names

-- the nodes whose name is not among the known ones, each at its first place alone
abbrev pub first_named : List (List ℕ) → List NodeView → List NodeView
first_named known [] = []
first_named known (n ∷ ns) = if stands_in n.name known then first_named known ns else n ∷ first_named (n.name ∷ known) ns

-- the strings of the object of a label
abbrev pub strings_at : AddedView → List ℕ → StringsView
strings_at added label = unwrap_or (lookup (is_at (slice_cmp nat_cmp label)) added.later) (record { names = names_in added.first; added = [] })

-- what each version of the object of a label added, the oldest first
abbrev pub added_in : AddedView → List ℕ → List (List NodeView)
added_in added label = added.first ∷ (strings_at added label).added

-- the strings that stand in a version and in no older one, under their names, once each and in the order of the tree
abbrev pub added_by : (List ℕ → List ℕ) → ℕ → List ℕ → List (List ℕ) → List NodeView
added_by h block content older = nodes h (new_strings h block content older)

-- what each of the versions added, the oldest first
abbrev pub added_of : (List ℕ → List ℕ) → ℕ → List (List ℕ) → List (List NodeView)
added_of h block [] = []
added_of h block (content ∷ older) = added_of h block older ++ added_by h block content older ∷ []

-- what the version of a number added, where there is such a version
abbrev pub added_at : (List ℕ → List ℕ) → ℕ → List (List ℕ) → ℕ → Option (List NodeView)
added_at h block [] number = None
added_at h block (content ∷ older) number = if number == length older then Some (added_by h block content older) else added_at h block older number

-- of some nodes those were taken whose name was new in a set, and the set has the names of all of them now
abbrev pub TakesNew : List (List ℕ) → List (List ℕ) → List NodeView → List NodeView → Type 0
TakesNew old new ns taken = (known : List (List ℕ)) → HasJust old known → HasJust new (known ++ names_in ns) × (taken ≡ first_named known ns)

-- the strings of an object have those of some nodes that are new beside the others now, as what one more version added
pub record AddsStrings (old new : StringsView) (changed : List NodeView) : Type 0 where
  pub names : (known : List (List ℕ)) → HasJust old.names known → HasJust new.names (known ++ names_in changed)
  pub added : (known : List (List ℕ)) → HasJust old.names known → new.added ≡ old.added ++ first_named known changed ∷ []

-- the same of the object of one label, and those of the other labels are as they were
pub record AddsUnder (old new : AddedView) (label : List ℕ) (changed : List NodeView) : Type 0 where
  pub first : new.first ≡ old.first
  pub own : AddsStrings (strings_at old label) (strings_at new label) changed
  pub others : (other : List ℕ) → bytes_eq label other ≡ false → strings_at new other ≡ strings_at old other

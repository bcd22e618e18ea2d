-- What is claimed of the hearts of labels, where labels are told apart by the names of their objects.
use Rattle.std.specs.Prelude.{◌≡◌, ℕ, ◌-◌, ◌<◌, false, List, [], ◌∷◌, length, drop, Option, Some, None, Contains}
use Rattle.guarded_update.specs.declared.request.Request.{Request}
use Rattle.object_model.specs.Trees.{version_name, object_name}
use Rattle.object_model.specs.Folds.{versions_after}
use Rattle.ring_model.specs.Messages.{Party, Client, Mark, FewFaulty}
use Rattle.ring_model.specs.World.{Event, world, IsLegal, chosen}
use Rattle.ring_model.specs.Belief.{heart_of}
use Rattle.ring_model.specs.Laws.{NoClash, AllDelivered, VersionsRise}
use Rattle.fold_model.specs.Folds.{requests_of}
use Rattle.fold_model.specs.Laws.{ForRings}

-- No two labels of these requests have objects of one name.
abbrev pub LabelsApart : (List ℕ → List ℕ) → List (List ℕ) → Type 0
LabelsApart h strings = (a b : Request) → Contains (requests_of strings) a → Contains (requests_of strings) b → object_name h a.label ≡ object_name h b.label → a.label ≡ b.label

-- Nor does another label among them have an object of this label's name.
abbrev pub LabelsApartWith : (List ℕ → List ℕ) → List ℕ → List (List ℕ) → Type 0
LabelsApartWith h label strings = LabelsApart h strings × ((r : Request) → Contains (requests_of strings) r → object_name h r.label ≡ object_name h label → r.label ≡ label)

-- The versions of an object rise along any list of requests whose labels are apart.
abbrev pub MadeVersionsRise : Type 0
MadeVersionsRise = ForRings (λ h block archiving g. (strings : List (List ℕ)) → LabelsApart h strings → VersionsRise g strings)

-- the mark of the newest of an object's versions, where that is not the empty one
abbrev pub mark_of_newest : (List ℕ → List ℕ) → ℕ → List ℕ → List (List ℕ) → Option Mark
mark_of_newest h block label [] = None
mark_of_newest h block label (empty ∷ []) = None
mark_of_newest h block label (content ∷ last ∷ older) = Some (record { object = object_name h label; version = length (last ∷ older); name = version_name h block (content ∷ last ∷ older) })

-- the mark of the last version of a label's object that requests make
abbrev pub newest_mark : (List ℕ → List ℕ) → ℕ → List ℕ → List (List ℕ) → Option Mark
newest_mark h block label strings = mark_of_newest h block label (versions_after h block label (requests_of strings))

-- Where member 0 is correct and all was delivered, each client's heart of a label is that of the last version that the committed list makes of it.
abbrev pub LastIsTold : Type 0
LastIsTold = ForRings (λ h block archiving g. FewFaulty g → g.is_faulty 0 ≡ false → (events : List Event) → IsLegal g events → AllDelivered g (world g events)
    → (c : ℕ) → c < g.clients → (label : List ℕ) → LabelsApartWith h label (chosen g (world g events))
    → heart_of g (object_name h label) ((world g events).got (Client c)) ≡ newest_mark h block label (chosen g (world g events)))

-- the versions up to one number, of all of an object's, the newest first
abbrev pub versions_to : ℕ → List (List ℕ) → List (List ℕ)
versions_to number versions = drop (length versions - 1 - number) versions

-- A mark has the number of a version that requests make of a label's object, and this version's name.
abbrev pub IsVersionOf : (List ℕ → List ℕ) → ℕ → List ℕ → List (List ℕ) → Mark → Type 0
IsVersionOf h block label strings m =
    (m.version < length (versions_after h block label (requests_of strings))) × (0 < m.version)
    × (m.name ≡ version_name h block (versions_to m.version (versions_after h block label (requests_of strings))))

-- Each believed heart of a label is the name of that label's version in the fold of the committed list, and is none of version 0.
abbrev pub HeartIsOfLabel : Type 0
HeartIsOfLabel = ForRings (λ h block archiving g. FewFaulty g → (events : List Event) → IsLegal g events → NoClash g (world g events).submits
    → (c : Party) (label : List ℕ) → LabelsApartWith h label (chosen g (world g events))
    → (m : Mark) → heart_of g (object_name h label) ((world g events).got c) ≡ Some m → IsVersionOf h block label (chosen g (world g events)) m)

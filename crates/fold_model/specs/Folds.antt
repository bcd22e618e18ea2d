-- What a list of requests does, when members have only their strings. Here the oldest request is first. Throughout, h names byte
-- strings, and block is how many bytes a whole leaf has.
use Rattle.std.specs.Prelude.{ℕ, List, [], ◌∷◌, ◌++◌, length, map, reverse, Option, Some, None}
use Rattle.guarded_update.specs.declared.request.Request.{Request}
use Rattle.tree_format.specs.Strings.{label_string}
use Rattle.object_model.specs.Trees.{object_name}
use Rattle.object_model.specs.Folds.{Made, made_by, versions_of}
use Rattle.ring_message.specs.declared.outcome.Outcome.{Outcome}
use Rattle.ring_message.specs.declared.outcome.Outcome.TheVariants as told
use Rattle.ring_message.specs.Spelling.{outcome_string}
use Rattle.message_model.specs.Requests.{request_at}
use Rattle.object_model.specs.Outcomes.{outcome_after, strings_named}
use Rattle.ring_model.specs.Messages.{Mark}

-- the requests that strings spell, the newest first
abbrev pub requests_of : List (List ℕ) → List Request
requests_of strings = reverse (map request_at strings)

-- what is said of the newest request after the earlier ones
abbrev pub of_newest : {X : Type 0} → X → (Request → List Request → X) → List Request → X
of_newest none say [] = none
of_newest none say (request ∷ earlier) = say request earlier

-- the version of an object that an outcome made, with the name of its root
abbrev pub mark_of : List ℕ → Outcome → Option Mark
mark_of object (told.Made version name) = Some (record { object = object; version = version.0; name = name })
mark_of object told.NoClause = None
mark_of object told.OutOfRange = None
mark_of object told.TooLong = None
mark_of object told.Repeat = None

-- the label string, where an outcome made a version
abbrev pub label_named : List ℕ → Outcome → List (List ℕ)
label_named label (told.Made version name) = label_string label ∷ []
label_named label told.NoClause = []
label_named label told.OutOfRange = []
label_named label told.TooLong = []
label_named label told.Repeat = []

-- the version that a request makes after earlier ones
abbrev pub heart_after : (List ℕ → List ℕ) → ℕ → Request → List Request → Option Mark
heart_after h block request earlier = mark_of (object_name h request.label) (outcome_after h block request earlier)

-- the strings that are named for a request after earlier ones: those of the version that it makes, and then its label's
abbrev pub named_after : (List ℕ → List ℕ) → ℕ → Request → List Request → List (List ℕ)
named_after h block request earlier = strings_named h block request earlier ++ label_named request.label (outcome_after h block request earlier)

-- the outcome of each request after those before it
abbrev pub outcomes_after : (List ℕ → List ℕ) → ℕ → List Request → List Outcome
outcomes_after h block [] = []
outcomes_after h block (request ∷ earlier) = outcomes_after h block earlier ++ outcome_after h block request earlier ∷ []

-- the outcome of the last request after the others, as it is spelled
abbrev pub outcome_by : (List ℕ → List ℕ) → ℕ → List (List ℕ) → List ℕ
outcome_by h block strings = of_newest [] (λ request earlier. outcome_string (outcome_after h block request earlier)) (requests_of strings)

-- the version that the last request makes after the others
abbrev pub heart_by : (List ℕ → List ℕ) → ℕ → List (List ℕ) → Option Mark
heart_by h block strings = of_newest None (heart_after h block) (requests_of strings)

-- the strings that are named as the last request is executed after the others
abbrev pub namings_by : (List ℕ → List ℕ) → ℕ → List (List ℕ) → List (List ℕ)
namings_by h block strings = of_newest [] (named_after h block) (requests_of strings)

-- the outcomes of all requests, in order
abbrev pub outcomes_by : (List ℕ → List ℕ) → ℕ → List (List ℕ) → List Outcome
outcomes_by h block strings = outcomes_after h block (requests_of strings)

-- How a version is archived: its manifest and its fragments, for the object's name and the versions, the newest first.
pub record Archiving : Type 0 where
  pub manifest : List ℕ → List (List ℕ) → List ℕ
  pub fragments : List ℕ → List (List ℕ) → List (List ℕ)

-- the mark of a version by its manifest
abbrev pub seal_of : (List ℕ → List ℕ) → Archiving → Made → List Made → Mark
seal_of h archiving m made =
    record { object = object_name h m.label; version = length (versions_of m.label made); name = h (archiving.manifest (object_name h m.label) (m.content ∷ versions_of m.label made)) }

-- the versions that were made, in order of making
abbrev pub seals_of : (List ℕ → List ℕ) → Archiving → List Made → List Mark
seals_of h archiving [] = []
seals_of h archiving (m ∷ made) = seals_of h archiving made ++ seal_of h archiving m made ∷ []

-- the versions that requests make, in order of making
abbrev pub seals_by : (List ℕ → List ℕ) → ℕ → Archiving → List (List ℕ) → List Mark
seals_by h block archiving strings = seals_of h archiving (made_by h block (requests_of strings))

-- the strings that are named as a version is archived: its fragments, and its manifest
abbrev pub turn_of : (List ℕ → List ℕ) → Archiving → Made → List Made → List (List ℕ)
turn_of h archiving m made =
    let object = object_name h m.label in
    let versions = m.content ∷ versions_of m.label made in
    archiving.fragments object versions ++ archiving.manifest object versions ∷ []

-- those of each version that was made, in order of making
abbrev pub turns_of : (List ℕ → List ℕ) → Archiving → List Made → List (List (List ℕ))
turns_of h archiving [] = []
turns_of h archiving (m ∷ made) = turns_of h archiving made ++ turn_of h archiving m made ∷ []

-- those of each version that requests make
abbrev pub turns_by : (List ℕ → List ℕ) → ℕ → Archiving → List (List ℕ) → List (List (List ℕ))
turns_by h block archiving strings = turns_of h archiving (made_by h block (requests_of strings))

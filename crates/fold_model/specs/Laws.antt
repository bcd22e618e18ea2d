-- What is claimed of the ring whose members fold what they execute.
use Rattle.std.specs.Prelude.{◌≡◌, ◌≢◌, ℕ, suc, ◌+◌, ◌<◌, ◌^◌, Bool, false, List, ◌++◌, length, take, slice_get, Some}
use Rattle.object_model.specs.Trees.{version_name, object_name}
use Rattle.object_model.specs.Folds.{same_number, versions_after}
use Rattle.ring_message.specs.declared.outcome.Outcome.{Outcome}
use Rattle.ring_message.specs.declared.outcome.Outcome.TheVariants as told
use Rattle.ring_message.specs.Spelling.{outcome_string}
use Rattle.ring_model.specs.Messages.{Ring, Party, Client, FewFaulty}
use Rattle.ring_model.specs.World.{Event, world, IsLegal, chosen}
use Rattle.ring_model.specs.Belief.{believed, replied, beating, sealing}
use Rattle.ring_model.specs.Laws.{NoClash, IsPrefix}
use Rattle.message_model.specs.Requests.{request_at}
use Rattle.message_model.specs.Reading.{IsRingOf}
use Rattle.fold_model.specs.Folds.{Archiving, requests_of, outcome_by, outcomes_by, seals_by}
use Rattle.fold_model.specs.Rings.{ring_of, FoldsAs}

-- What was sealed stays sealed.
abbrev pub SealsStay : Type 0
SealsStay = (h : List ℕ → List ℕ) (block : ℕ) (archiving : Archiving) (xs ys : List (List ℕ)) → IsPrefix (seals_by h block archiving xs) (seals_by h block archiving (xs ++ ys))

-- a fact holds of each ring that is made of folds
abbrev pub ForRings : ((List ℕ → List ℕ) → ℕ → Archiving → Ring → Type 0) → Type 0
ForRings P = (faults clients : ℕ) (are_faulty : ℕ → Bool) (h : List ℕ → List ℕ) (block : ℕ) (archiving : Archiving) → P h block archiving (ring_of faults clients are_faulty h block archiving)

-- The ring reads requests as the grammar does.
abbrev pub RingIsRead : Type 0
RingIsRead = ForRings (λ h block archiving g. IsRingOf h g)

-- Its members fold what they execute.
abbrev pub RingFolds : Type 0
RingFolds = ForRings (λ h block archiving g. FoldsAs h block g)

-- The outcome at a place of a list, as it is spelled, is that of the requests up to the place.
abbrev pub OutcomesAreSpelled : Type 0
OutcomesAreSpelled = (h : List ℕ → List ℕ) (block : ℕ) (strings : List (List ℕ)) (place : ℕ) (outcome : Outcome)
    → slice_get (outcomes_by h block strings) place ≡ Some outcome → outcome_by h block (take (suc place) strings) ≡ outcome_string outcome

-- A ring folds by one number of bytes for a leaf.
abbrev pub OneBlock : Type 0
OneBlock = (h : List ℕ → List ℕ) (g : Ring) (a b : ℕ) → a < 2 ^ 32 → b < 2 ^ 32 → FoldsAs h a g → FoldsAs h b g → a ≡ b

-- Requests make a version of this number of an object. The versions are those of the object up to it, the newest first.
pub record MakesVersion (h : List ℕ → List ℕ) (block : ℕ) (strings : List (List ℕ)) (object : List ℕ) (number : ℕ) : Type 0 where
  pub label : List ℕ
  pub is_object : object ≡ object_name h label
  pub versions : List (List ℕ)
  pub newer : List (List ℕ)
  pub among : newer ++ versions ≡ versions_after h block label (requests_of strings)
  pub count : length versions ≡ number + 1

-- Each believed heart is the name of that version in the fold of the committed list.
abbrev pub HeartIsVersion : Type 0
HeartIsVersion = ForRings (λ h block archiving g. FewFaulty g → (events : List Event) → IsLegal g events → NoClash g (world g events).submits
    → (c : Party) (object : List ℕ) (number : ℕ) (name : List ℕ) → believed g (beating object number) ((world g events).got c) ≡ Some name
    → (made : MakesVersion h block (chosen g (world g events)) object number) × (name ≡ version_name h block made.versions))

-- Each believed seal is the name of the manifest of that version.
abbrev pub SealIsManifest : Type 0
SealIsManifest = ForRings (λ h block archiving g. FewFaulty g → (events : List Event) → IsLegal g events → NoClash g (world g events).submits
    → (c : Party) (object : List ℕ) (number : ℕ) (name : List ℕ) → believed g (sealing object number) ((world g events).got c) ≡ Some name
    → (made : MakesVersion h block (chosen g (world g events)) object number) × (name ≡ h (archiving.manifest object made.versions)))

-- A list has at a place a request of this client and number that has this outcome there, and none of that client and number before, unless the outcome is that it was executed before.
pub record IsAnswered (h : List ℕ → List ℕ) (block : ℕ) (strings : List (List ℕ)) (client number : ℕ) (outcome : List ℕ) : Type 0 where
  pub place : ℕ
  pub string : List ℕ
  pub at : slice_get strings place ≡ Some string
  pub client_is : (request_at string).client.0 ≡ client
  pub number_is : (request_at string).number ≡ number
  pub outcome_is : outcome ≡ outcome_by h block (take (suc place) strings)
  pub first : outcome ≢ outcome_string told.Repeat → (earlier : ℕ) (other : List ℕ) → earlier < place → slice_get strings earlier ≡ Some other → same_number (request_at string) (request_at other) ≡ false

-- Each believed reply is the outcome at one of the slots of the committed list that hold that request, and where it is not that of a repeat at the first of them.
abbrev pub ReplyIsOutcome : Type 0
ReplyIsOutcome = ForRings (λ h block archiving g. FewFaulty g → (events : List Event) → IsLegal g events → NoClash g (world g events).submits
    → (client number : ℕ) (outcome : List ℕ) → believed g (replied number) ((world g events).got (Client client)) ≡ Some outcome
    → IsAnswered h block (chosen g (world g events)) client number outcome)

-- The ring whose members fold what they execute.
use Rattle.std.specs.Prelude.{◌≡◌, ℕ, Bool, List}
use Rattle.ring_model.specs.Messages.{Ring}
use Rattle.message_model.specs.Requests.{request_at}
use Rattle.fold_model.specs.Folds.{Archiving, outcome_by, heart_by, namings_by, seals_by, turns_by}
use Rattle.fold_model.specs.Growing.{seals_stay}

-- A ring of 3f+1 members and these clients, whose requests are those of the grammar, and whose members fold them into versions with leaves of so many bytes.
abbrev pub ring_of : ℕ → ℕ → (ℕ → Bool) → (List ℕ → List ℕ) → ℕ → Archiving → Ring
ring_of faults count are_faulty naming block archiving = record {
  f = faults;
  clients = count;
  slots = 65536;
  is_faulty = are_faulty;
  h = naming;
  owner = λ string. (request_at string).client.0;
  number = λ string. (request_at string).number;
  outcome = outcome_by naming block;
  heart = heart_by naming block;
  namings = namings_by naming block;
  seals = seals_by naming block archiving;
  turns = turns_by naming block archiving;
  seals_stay = seals_stay naming block archiving;
}

-- The members of a ring fold what they execute, and name the strings of the fold.
pub record FoldsAs (h : List ℕ → List ℕ) (block : ℕ) (g : Ring) : Type 0 where
  pub outcomes : (strings : List (List ℕ)) → g.outcome strings ≡ outcome_by h block strings
  pub hearts : (strings : List (List ℕ)) → g.heart strings ≡ heart_by h block strings
  pub named : (strings : List (List ℕ)) → g.namings strings ≡ namings_by h block strings

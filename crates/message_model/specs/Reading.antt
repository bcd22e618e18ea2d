-- How the ring of the model reads requests.
use Rattle.std.specs.Prelude.{◌≡◌, ℕ, ◌==◌, cond, List, [], ◌∷◌}
use Rattle.guarded_update.specs.declared.request.Request.{Request as Asked}
use Rattle.guarded_update.specs.Fitting.{IsRequest}
use Rattle.guarded_update.specs.Spelling.{request_string}
use Rattle.ring_model.specs.Messages.{Ring, Message, Party, Client, Request}
use Rattle.message_model.specs.Requests.{request_at}

-- The ring names strings by this function, and reads requests as the grammar does.
pub record IsRingOf (h : List ℕ → List ℕ) (g : Ring) : Type 0 where
  pub names : (string : List ℕ) → g.h string ≡ h string
  pub owners : (r : Asked) → IsRequest r → g.owner (request_string r) ≡ r.client.0
  pub numbers : (r : Asked) → IsRequest r → g.number (request_string r) ≡ r.number

-- the request that a message from its own client asks for
abbrev pub asked_in : Party → Message → List (List ℕ)
asked_in (Client c) (Request r) = cond ((request_at r).client.0 == c) (r ∷ []) []
asked_in _ _ = []

-- The ring, the requests and the letters that a client stands for.
use Rattle.std.specs.Prelude.{◌≡◌, ℕ, ◌+◌, List, map, length}
use Rattle.std.specs.List.{AllByRecursion}
use Rattle.guarded_update.specs.declared.request.Request.{Request as Asking}
use Rattle.guarded_update.specs.declared.update.Update.{Update}
use Rattle.ring_model.specs.Messages.{Request, Letter, Ring}
use Rattle.ring_model.specs.World.{IsParty}
use Rattle.message_model.specs.Meaning.{meaning}
use Rattle.heartbeat.specs.Boards.{StandsFor}
use Rattle.heartbeat.specs.Joins.{heart_told, seal_told, votes_in}
use Rattle.client_core.specs.declared.asking.Asked.{Asked}
use Rattle.client_core.specs.declared.client.Client.{Client}
use Rattle.client_core.specs.Replies.{RepliesStand}

-- the message of a request carries its string
abbrev pub Carries : Asked → Type 0
Carries asked = meaning asked.message ≡ Request asked.text

-- the strings of the requests that a client submitted, the oldest first
abbrev pub texts_of : Client → List (List ℕ)
texts_of client = map (λ asked. asked.text) client.requests.items

-- the request that a client submits next
abbrev pub next_request : Client → List ℕ → Update → Asking
next_request client label update = record { client = client.id; number = length client.requests.items + 1; label = label; update = update }

-- A client of this number in a ring keeps the strings that it submitted, the oldest first, and stands for letters from parties of the ring, the newest first.
pub record ClientStands (client : Client) (g : Ring) (c : ℕ) (submits : List (List ℕ)) (got : List Letter) : Type 0 where
  pub faulty : g.f ≡ client.f
  pub number : client.id.0 ≡ c
  pub requests : texts_of client ≡ submits
  pub messages : AllByRecursion Carries client.requests.items
  pub parties : AllByRecursion (λ l. IsParty g l.from) got
  pub replies : RepliesStand g client.replies.entries got
  pub hearts : StandsFor (g.f + 1) client.hearts (votes_in heart_told got)
  pub seals : StandsFor (g.f + 1) client.seals (votes_in seal_told got)

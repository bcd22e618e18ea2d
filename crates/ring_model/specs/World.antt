-- What may happen, and what was sent and delivered after a list of events, the newest first.
use Rattle.std.specs.Prelude.{◌≡◌, ℕ, ◌+◌, ◌*◌, ◌<◌, true, false, cond, not, ◌==◌, ◌&&◌, nat_lt, List, [], ◌∷◌, ◌++◌, length, map, slice_get, filter, find, count_by, Option, Some, None, Contains}
use Rattle.ring_model.specs.Messages.{Party, Member, Client, Message, Request, Sealed, Letter, Packet, Mark, Ring, members, same_party, to_members, to_clients}
use Rattle.ring_model.specs.Member.{executed, causes}

-- what has happened by now
pub record World : Type 0 where
  -- the strings that were submitted, and every message that was ever sent, the oldest first
  pub submits : List (List ℕ)
  pub sent : List Packet
  -- what was delivered to each party, the newest first
  pub got : Party → List Letter
  -- how many versions each member has archived
  pub archived : ℕ → ℕ

-- What may happen; nothing else adds to what was sent, so that each message names its sender.
pub data Event : Type 0 where
  -- the request's client sends it to every member
  Submit : (text : List ℕ) → Event
  -- the same messages once more
  Resubmit : (client number : ℕ) → Event
  -- the message at this place, counted from 0, among those from the one to the other
  Deliver : (from to : Party) (place : ℕ) → Event
  -- a faulty member sends any message, under its own name
  Forge : (member : ℕ) (to : Party) (message : Message) → Event
  -- a correct member tells the clients the manifest of its next version, if it has one
  Archive : (member : ℕ) → Event

-- where nothing has happened
abbrev pub start : World
start = record { submits = []; sent = []; got = λ p. []; archived = λ i. 0 }

-- the messages of a request from its client
abbrev pub asking : Ring → Option (List ℕ) → List Packet
asking g None = []
asking g (Some r) = to_members g (Client (g.owner r)) (Request r)

-- the messages from the one party to the other, the oldest first
abbrev pub between : Party → Party → List Packet → List Packet
between p q sent = filter (λ x. same_party x.from p && same_party x.to q) sent

-- what a party sends as its letters grow
abbrev pub sends : Ring → Party → List Letter → List Letter → List Packet
sends g (Client c) older got = []
sends g (Member i) older got = cond (g.is_faulty i) [] (causes g i older got)

-- A message that comes is given to its receiver, which sends what it causes.
abbrev pub came : Ring → World → Option Packet → World
came g w None = w
came g w (Some x) =
    record w {
      got = λ p. cond (same_party x.to p) (record { from = x.from; message = x.message } ∷ w.got p) (w.got p);
      sent = w.sent ++ sends g x.to (w.got x.to) (record { from = x.from; message = x.message } ∷ w.got x.to);
    }

-- A member that archives a version tells every client.
abbrev pub turned : Ring → World → ℕ → Option Mark → World
turned g w i None = w
turned g w i (Some m) =
    record w {
      archived = λ j. cond (i == j) (w.archived j + 1) (w.archived j);
      sent = w.sent ++ to_clients g (Member i) (Sealed m.object m.version m.name);
    }

-- what one event makes of the world
abbrev pub happens : Ring → World → Event → World
happens g w (Submit r) = record w { submits = w.submits ++ r ∷ []; sent = w.sent ++ asking g (Some r) }
happens g w (Resubmit c n) = record w { sent = w.sent ++ asking g (find (λ r. g.owner r == c && g.number r == n) w.submits) }
happens g w (Deliver p q k) = came g w (slice_get (between p q w.sent) k)
happens g w (Forge i q m) = record w { sent = w.sent ++ record { from = Member i; to = q; message = m } ∷ [] }
happens g w (Archive i) = turned g w i (slice_get (g.seals (executed g (w.got (Member i)))) (w.archived i))

-- the world after a list of events
abbrev pub world : Ring → List Event → World
world g [] = start
world g (e ∷ events) = happens g (world g events) e

-- a declared party
abbrev pub IsParty : Ring → Party → Type 0
IsParty g (Member i) = i < 3 * g.f + 1
IsParty g (Client c) = c < g.clients

-- Clients number their submits 1, 2, and so on; only what was submitted is resubmitted; only faulty members forge, only correct ones archive.
abbrev pub MayHappen : Ring → World → Event → Type 0
MayHappen g w (Submit r) = (length w.submits < g.slots) × (g.owner r < g.clients) × (g.number r ≡ count_by (λ t. g.owner t == g.owner r) w.submits + 1)
MayHappen g w (Resubmit c n) = (r : List ℕ) × Contains w.submits r × (g.owner r ≡ c) × (g.number r ≡ n)
MayHappen g w (Deliver p q k) = IsParty g p × IsParty g q
MayHappen g w (Forge i q m) = (g.is_faulty i ≡ true) × IsParty g (Member i) × IsParty g q
MayHappen g w (Archive i) = (g.is_faulty i ≡ false) × IsParty g (Member i)

-- each event may happen where it stands
abbrev pub IsLegal : Ring → List Event → Type 0
IsLegal g [] = Unit {0}
IsLegal g (e ∷ events) = MayHappen g (world g events) e × IsLegal g events

-- the correct members
abbrev pub correct : Ring → List ℕ
correct g = filter (λ i. not (g.is_faulty i)) (members g)

-- the longest of some lists, the first of these at a tie
abbrev pub longest : {Y : Type 0} → List (List Y) → List Y
longest [] = []
longest (xs ∷ xss) = cond (nat_lt (length xs) (length (longest xss))) (longest xss) xs

-- The committed list is the longest executed list of a correct member.
abbrev pub chosen : Ring → World → List (List ℕ)
chosen g w = longest (map (λ i. executed g (w.got (Member i))) (correct g))

-- Parties, messages and what a ring is made with. A request is its string of bytes, and a name is a list of bytes.
use Rattle.std.specs.Prelude.{◌≡◌, ◌++◌, ℕ, ◌+◌, ◌*◌, Bool, false, ◌==◌, List, Option, map, count_by, ◌≤◌}
use Rattle.std.specs.List.{range_with_len}

-- The parties of a ring are its members and its clients, each numbered from 0.
pub data Party : Type 0 where
  Member : ℕ → Party
  Client : ℕ → Party

-- whether two parties are one
abbrev pub same_party : Party → Party → Bool
same_party (Member i) (Member j) = i == j
same_party (Client i) (Client j) = i == j
same_party (Member i) (Client j) = false
same_party (Client i) (Member j) = false

-- What a party may be sent: a request, the primary's order of one, the votes on its name, or news for clients.
pub data Message : Type 0 where
  Request : (text : List ℕ) → Message
  PrePrepare : (slot : ℕ) (text : List ℕ) → Message
  Prepare : (slot : ℕ) (name : List ℕ) → Message
  Commit : (slot : ℕ) (name : List ℕ) → Message
  Reply : (number : ℕ) (outcome : List ℕ) → Message
  Heart : (object : List ℕ) (version : ℕ) (name : List ℕ) → Message
  Sealed : (object : List ℕ) (version : ℕ) (name : List ℕ) → Message
  -- bytes that are no message
  Foreign : Message

-- a message that was delivered, with its sender
pub record Letter : Type 0 where
  pub from : Party
  pub message : Message

-- a message that was sent
pub record Packet : Type 0 where
  pub from : Party
  pub to : Party
  pub message : Message

-- a version of an object, and the name of its root or of its manifest
pub record Mark : Type 0 where
  pub object : List ℕ
  pub version : ℕ
  pub name : List ℕ

-- What a ring is made with. Members and clients agree on all of it; its requests are read and executed by these functions.
pub record Ring : Type 0 where
  -- at most so many of the 3f+1 members are faulty
  pub f : ℕ
  -- how many clients there are
  pub clients : ℕ
  -- the greatest sequence number
  pub slots : ℕ
  -- which members are faulty
  pub is_faulty : ℕ → Bool
  -- the naming function
  pub h : List ℕ → List ℕ
  -- the client and the number that stand in a request's string
  pub owner : List ℕ → ℕ
  pub number : List ℕ → ℕ
  -- what the last request of a list does after those before it: its outcome, and the version that it makes
  pub outcome : List (List ℕ) → List ℕ
  pub heart : List (List ℕ) → Option Mark
  -- the strings that the execution of the last request of a list names
  pub namings : List (List ℕ) → List (List ℕ)
  -- the versions that a list of requests makes, with their manifests' names, in order of making
  pub seals : List (List ℕ) → List Mark
  -- the strings that are named as each of these is archived
  pub turns : List (List ℕ) → List (List (List ℕ))
  -- what was made stays made
  pub seals_stay : (xs ys : List (List ℕ)) → (rest : List Mark) × (seals xs ++ rest ≡ seals (xs ++ ys))

-- the 3f+1 members
abbrev pub members : Ring → List ℕ
members g = range_with_len 0 (3 * g.f + 1)

-- at most f members are faulty
abbrev pub FewFaulty : Ring → Type 0
FewFaulty g = count_by g.is_faulty (members g) ≤ g.f

-- a broadcast to every member, rising
abbrev pub to_members : Ring → Party → Message → List Packet
to_members g from m = map (λ j. record { from = from; to = Member j; message = m }) (members g)

-- a broadcast to every client, rising
abbrev pub to_clients : Ring → Party → Message → List Packet
to_clients g from m = map (λ c. record { from = from; to = Client c; message = m }) (range_with_len 0 g.clients)

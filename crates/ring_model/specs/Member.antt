-- What a member makes of the letters that were delivered to it, the newest first.
use Rattle.std.specs.Prelude.{ℕ, zero, suc, ◌+◌, ◌-◌, ◌*◌, Bool, false, cond, ◌==◌, ◌&&◌, nat_le, List, [], ◌∷◌, ◌++◌, length, take, slice_get, Option, Some, None, count_by, bytes_eq, flat_map}
use Rattle.std.specs.List.{list_any, range_with_len}
use Rattle.ring_model.specs.Messages.{Party, Member, Client, Message, Request, PrePrepare, Prepare, Commit, Reply, Heart, Letter, Packet, Mark, Ring, same_party, to_members, to_clients}
use Rattle.ring_model.specs.History.{first_word, voters, passing, run_of}

-- the request that a message orders at slot s
abbrev pub pre_prepares : ℕ → Message → Option (List ℕ)
pre_prepares s (PrePrepare t r) = cond (t == s) (Some r) None
pre_prepares s _ = None

-- the name that a message prepares at slot s
abbrev pub prepares : ℕ → Message → Option (List ℕ)
prepares s (Prepare t d) = cond (t == s) (Some d) None
prepares s _ = None

-- the name that a message commits at slot s
abbrev pub commits : ℕ → Message → Option (List ℕ)
commits s (Commit t d) = cond (t == s) (Some d) None
commits s _ = None

-- whether a message is this request
abbrev pub is_request : List ℕ → Message → Bool
is_request r (Request t) = bytes_eq t r
is_request r _ = false

-- whether the letter is the request, from its own client
abbrev pub asks : Ring → List ℕ → Letter → Bool
asks g r l = same_party l.from (Client (g.owner r)) && is_request r l.message

-- Slot s is endorsed by the request in the first PrePrepare for s from member 0, once that request came from its client.
abbrev pub endorsed : Ring → List Letter → ℕ → Option (List ℕ)
endorsed g got s = passing (λ r. list_any (asks g r) got) (first_word (Member 0) (pre_prepares s) got)

-- A slot is prepared where it is endorsed and 2f+1 members have the request's name in their first Prepare for it.
abbrev pub prepared : Ring → List Letter → ℕ → Option (List ℕ)
prepared g got s = passing (λ r. nat_le (2 * g.f + 1) (voters g (prepares s) (g.h r) got)) (endorsed g got s)

-- A slot is committed where it is prepared and 2f+1 members have the request's name in their first Commit for it.
abbrev pub committed : Ring → List Letter → ℕ → Option (List ℕ)
committed g got s = passing (λ r. nat_le (2 * g.f + 1) (voters g (commits s) (g.h r) got)) (prepared g got s)

-- The executed list is the requests of the slots 1, 2, and so on, up to the first that isn't committed.
abbrev pub executed : Ring → List Letter → List (List ℕ)
executed g got = run_of (committed g got) g.slots 1

-- the first s of a list, where it has a place s, counted from 1
abbrev pub first_of : {Y : Type 0} → ℕ → List Y → Option (List Y)
first_of s xs = cond (nat_le 1 s && nat_le s (length xs)) (Some (take s xs)) None

-- the executed requests up to slot s, where s is executed
abbrev pub executed_to : Ring → List Letter → ℕ → Option (List (List ℕ))
executed_to g got s = first_of s (executed g got)

-- the string of the client's request of this number
abbrev pub numbered : Ring → ℕ → ℕ → Message → Option (List ℕ)
numbered g c n (Request r) = cond (g.owner r == c && g.number r == n) (Some r) None
numbered g c n _ = None

-- the requests of the client that come after the first n, up to the first that hasn't come from it
abbrev pub chain : Ring → ℕ → List Letter → ℕ → List (List ℕ)
chain g c got n = run_of (λ k. first_word (Client c) (numbered g c k) got) (g.slots - n) (1 + n)

-- what becomes next of its client as this message comes last, where those were ordered before
abbrev pub ordered_by : Ring → List Letter → List (List ℕ) → Party → Message → List (List ℕ)
ordered_by g got done (Client c) (Request r) = cond (g.owner r == c) (chain g c got (count_by (λ t. g.owner t == c) done)) []
ordered_by g got done _ _ = []

-- The orders are the requests that came from their clients, in the order in which they became next of their client.
abbrev pub orders : Ring → List Letter → List (List ℕ)
orders g [] = []
orders g (l ∷ older) = orders g older ++ ordered_by g (l ∷ older) (orders g older) l.from l.message

-- the order with sequence number k, counted from 1
abbrev pub order_at : Ring → List Letter → ℕ → Option (List ℕ)
order_at g got zero = None
order_at g got (suc k) = slice_get (orders g got) k

-- what is sent for an item that is owed after and was not owed before
abbrev pub news : {Y : Type 0} → Option Y → Option Y → (Y → List Packet) → List Packet
news None None send = []
news None (Some y) send = send y
news (Some x) after send = []

-- the same for each slot, in order
abbrev pub newly : {Y : Type 0} → Ring → (ℕ → Option Y) → (ℕ → Option Y) → (ℕ → Y → List Packet) → List Packet
newly g before after send = flat_map (λ s. news (before s) (after s) (send s)) (range_with_len 1 g.slots)

-- what is sent for a version that was made
abbrev pub hearts : Ring → ℕ → Option Mark → List Packet
hearts g i None = []
hearts g i (Some m) = to_clients g (Member i) (Heart m.object m.version m.name)

-- what is sent for an executed slot, of the list that ends with its request
abbrev pub answers : Ring → ℕ → List (List ℕ) → List Packet
answers g i xs = said (slice_get xs (length xs - 1))
  where
    said : Option (List ℕ) → List Packet
    said None = []
    said (Some r) = record { from = Member i; to = Client (g.owner r); message = Reply (g.number r) (g.outcome xs) } ∷ hearts g i (g.heart xs)

-- What a correct member sends as its letters grow from older to got: orders if it is member 0, Prepares, Commits, and answers.
abbrev pub causes : Ring → ℕ → List Letter → List Letter → List Packet
causes g i older got =
    cond (i == 0) (newly g (order_at g older) (order_at g got) (λ k r. to_members g (Member i) (PrePrepare k r))) []
    ++ newly g (endorsed g older) (endorsed g got) (λ s r. to_members g (Member i) (Prepare s (g.h r)))
    ++ newly g (prepared g older) (prepared g got) (λ s r. to_members g (Member i) (Commit s (g.h r)))
    ++ newly g (executed_to g older) (executed_to g got) (λ s xs. answers g i xs)

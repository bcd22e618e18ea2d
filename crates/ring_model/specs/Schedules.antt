-- Runs of a ring of four members, computed by the definitions.
use Rattle.std.specs.Prelude.{◌≡◌, ℕ, suc, ◌-◌, Bool, cond, ◌==◌, List, [], ◌∷◌, ◌++◌, length, map, take, get_or, slice_index, bytes_eq, Some, None, refl}
use Rattle.std.specs.List.{list_any}
use Rattle.ring_model.specs.Messages.{Party, Member, Client, Request, PrePrepare, Prepare, Commit, Heart, Foreign, Mark, Ring}
use Rattle.ring_model.specs.Member.{endorsed, prepared, executed, orders}
use Rattle.ring_model.specs.World.{Event, Submit, Deliver, Forge, World, world, IsLegal}
use Rattle.ring_model.specs.Belief.{believed, replied, heart_of}
use Rattle.ring_model.specs.Laws.{AllDelivered}

-- ---- a ring of four members, and one object

-- how many different requests a list has, beside those seen before
abbrev pub different : List (List ℕ) → List (List ℕ) → ℕ
different seen [] = 0
different seen (r ∷ rs) = cond (list_any (bytes_eq r) seen) (different seen rs) (suc (different (r ∷ seen) rs))

-- whether the last request of a list stood in it before
abbrev pub is_repeat : List (List ℕ) → Bool
is_repeat xs = different [] (take (length xs - 1) xs) == different [] xs

-- what the one object is called
abbrev pub object : List ℕ
object = 97 ∷ []

-- A version of the object is named by the request that made it.
abbrev pub version : ℕ → List ℕ → Mark
version v r = record { object = object; version = v; name = r }

-- the name of a request
abbrev pub called : List ℕ → List ℕ
called r = 9 ∷ r

-- Member `faulty` may forge, and none where it is 4. A request is its client, its number and a byte; the outcome of one that is no repeat is the version that it makes.
abbrev pub four : ℕ → ℕ → Ring
four faulty clients = record {
  f = 1;
  clients = clients;
  slots = 2;
  is_faulty = λ i. i == faulty;
  h = called;
  owner = λ r. slice_index r 0;
  number = λ r. slice_index r 1;
  outcome = λ xs. cond (is_repeat xs) [] (different [] xs ∷ []);
  heart = λ xs. cond (is_repeat xs) None (Some (version (different [] xs) (get_or xs (length xs - 1) [])));
  namings = λ xs. [];
  seals = λ xs. [];
  turns = λ xs. [];
  seals_stay = λ xs ys. ([], refl);
}

-- the first request of client 0
abbrev pub a : List ℕ
a = 0 ∷ 1 ∷ 5 ∷ []

-- the first request of client 1
abbrev pub b : List ℕ
b = 1 ∷ 1 ∷ 6 ∷ []

-- ---- schedules

-- all members
abbrev pub all : List ℕ
all = 0 ∷ 1 ∷ 2 ∷ 3 ∷ []

-- all but member 0
abbrev pub but_0 : List ℕ
but_0 = 1 ∷ 2 ∷ 3 ∷ []

-- all but member 3
abbrev pub but_3 : List ℕ
but_3 = 0 ∷ 1 ∷ 2 ∷ []

-- the message at one place from a party to each of these members
abbrev pub to_each : List ℕ → Party → ℕ → List Event
to_each js p k = map (λ j. Deliver p (Member j) k) js

-- the messages at one place from each of these members to a client
abbrev pub from_each : List ℕ → ℕ → ℕ → List Event
from_each is c k = map (λ i. Deliver (Member i) (Client c) k) is

-- A schedule is written from its first event on; as a list of events the newest stands first.
abbrev pub later : List Event → List Event → List Event
later events [] = events
later events (e ∷ es) = later (e ∷ events) es

-- the world after a schedule
abbrev pub ran : Ring → List Event → World
ran g schedule = world g (later [] schedule)

-- ---- what they show

-- a faulty primary orders one request twice
abbrev pub twice : List Event
twice =
    Submit a ∷ to_each all (Client 0) 0
    -- slot 1: the forged order, the Prepares, the Commits, the answers
    ++ Forge 0 (Member 1) (PrePrepare 1 a) ∷ Forge 0 (Member 2) (PrePrepare 1 a) ∷ Forge 0 (Member 3) (PrePrepare 1 a) ∷ to_each but_0 (Member 0) 0
    ++ to_each all (Member 1) 0 ++ to_each all (Member 2) 0 ++ to_each all (Member 3) 0
    ++ to_each all (Member 1) 1 ++ to_each all (Member 2) 1 ++ to_each all (Member 3) 1
    ++ from_each but_0 0 0 ++ from_each but_0 0 1
    -- slot 2: the same once more
    ++ Forge 0 (Member 1) (PrePrepare 2 a) ∷ Forge 0 (Member 2) (PrePrepare 2 a) ∷ Forge 0 (Member 3) (PrePrepare 2 a) ∷ to_each but_0 (Member 0) 1
    ++ to_each all (Member 1) 2 ++ to_each all (Member 2) 2 ++ to_each all (Member 3) 2
    ++ to_each all (Member 1) 3 ++ to_each all (Member 2) 3 ++ to_each all (Member 3) 3
    ++ from_each but_0 0 2

-- The request is executed in both slots, and makes one version; its client believes the first outcome.
abbrev pub PrimaryOrdersTwice : Type 0
PrimaryOrdersTwice =
    IsLegal (four 0 1) (later [] twice)
    × (executed (four 0 1) ((ran (four 0 1) twice).got (Member 1)) ≡ a ∷ a ∷ [])
    × (believed (four 0 1) (replied 1) ((ran (four 0 1) twice).got (Client 0)) ≡ Some (1 ∷ []))
    × (heart_of (four 0 1) object ((ran (four 0 1) twice).got (Client 0)) ≡ Some (version 1 a))

-- a faulty primary orders one request at member 1 and another at members 2 and 3, in one slot
abbrev pub equivocal : List Event
equivocal =
    Submit a ∷ Submit b ∷ to_each all (Client 0) 0 ++ to_each all (Client 1) 0
    ++ Forge 0 (Member 1) (PrePrepare 1 a) ∷ Forge 0 (Member 2) (PrePrepare 1 b) ∷ Forge 0 (Member 3) (PrePrepare 1 b) ∷ to_each but_0 (Member 0) 0
    ++ to_each all (Member 1) 0 ++ to_each all (Member 2) 0 ++ to_each all (Member 3) 0

-- and then votes for the second
abbrev pub voted : List Event
voted =
    equivocal
    ++ Forge 0 (Member 2) (Prepare 1 (called b)) ∷ Forge 0 (Member 3) (Prepare 1 (called b)) ∷ Forge 0 (Member 2) (Commit 1 (called b)) ∷ Forge 0 (Member 3) (Commit 1 (called b))
    ∷ to_each (2 ∷ 3 ∷ []) (Member 0) 1 ++ to_each (2 ∷ 3 ∷ []) (Member 0) 2 ++ to_each all (Member 2) 1 ++ to_each all (Member 3) 1
    ++ from_each (2 ∷ 3 ∷ []) 1 0 ++ from_each (2 ∷ 3 ∷ []) 0 0 ++ from_each (2 ∷ 3 ∷ []) 1 1

-- The second request alone is executed, by the members that it was ordered at, once the primary votes.
abbrev pub PrimaryEquivocates : Type 0
PrimaryEquivocates =
    IsLegal (four 0 2) (later [] voted)
    × (executed (four 0 2) ((ran (four 0 2) equivocal).got (Member 2)) ≡ [])
    × (executed (four 0 2) ((ran (four 0 2) voted).got (Member 1)) ≡ [])
    × (executed (four 0 2) ((ran (four 0 2) voted).got (Member 2)) ≡ b ∷ [])
    × (executed (four 0 2) ((ran (four 0 2) voted).got (Member 3)) ≡ b ∷ [])
    × (believed (four 0 2) (replied 1) ((ran (four 0 2) voted).got (Client 1)) ≡ Some (1 ∷ []))
    × (heart_of (four 0 2) object ((ran (four 0 2) voted).got (Client 0)) ≡ Some (version 1 b))

-- Nothing is delivered to members 1 and 2; member 3, which is faulty, votes twice at member 0, and orders the request in a second slot.
abbrev pub two_senders : List Event
two_senders =
    Submit a ∷ to_each (0 ∷ 3 ∷ []) (Client 0) 0 ++ to_each (0 ∷ 3 ∷ []) (Member 0) 0 ++ to_each (0 ∷ 3 ∷ []) (Member 0) 1
    ++ Forge 3 (Member 0) (Prepare 1 (called a)) ∷ Forge 3 (Member 0) (Prepare 1 (called a)) ∷ Forge 3 (Member 0) (Commit 1 (called a)) ∷ Forge 3 (Member 0) (Commit 1 (called a)) ∷ Forge 3 (Member 0) Foreign ∷ Forge 3 (Member 0) (PrePrepare 2 a)
    ∷ map (λ k. Deliver (Member 3) (Member 0) k) (0 ∷ 1 ∷ 2 ∷ 3 ∷ 4 ∷ 5 ∷ [])

-- The slot is endorsed, and neither prepared nor executed; the second slot isn't endorsed.
abbrev pub TwoSendersAreNotThree : Type 0
TwoSendersAreNotThree =
    IsLegal (four 3 1) (later [] two_senders)
    × (endorsed (four 3 1) ((ran (four 3 1) two_senders).got (Member 0)) 1 ≡ Some a)
    × (endorsed (four 3 1) ((ran (four 3 1) two_senders).got (Member 0)) 2 ≡ None)
    × (prepared (four 3 1) ((ran (four 3 1) two_senders).got (Member 0)) 1 ≡ None)
    × (executed (four 3 1) ((ran (four 3 1) two_senders).got (Member 0)) ≡ [])

-- Nothing is delivered to member 3.
abbrev pub muted : List Event
muted =
    Submit a ∷ to_each but_3 (Client 0) 0 ++ to_each but_3 (Member 0) 0
    ++ to_each but_3 (Member 0) 1 ++ to_each but_3 (Member 1) 0 ++ to_each but_3 (Member 2) 0
    ++ to_each but_3 (Member 0) 2 ++ to_each but_3 (Member 1) 1 ++ to_each but_3 (Member 2) 1
    ++ from_each but_3 0 0 ++ from_each but_3 0 1

-- The other three members execute the request, and its client has the heart of its version.
abbrev pub MutedMember : Type 0
MutedMember =
    IsLegal (four 4 1) (later [] muted)
    × (executed (four 4 1) ((ran (four 4 1) muted).got (Member 0)) ≡ a ∷ [])
    × (executed (four 4 1) ((ran (four 4 1) muted).got (Member 3)) ≡ [])
    × (heart_of (four 4 1) object ((ran (four 4 1) muted).got (Client 0)) ≡ Some (version 1 a))

-- The Commits of members 1 and 2 to member 0 are lost.
abbrev pub lost : List Event
lost =
    Submit a ∷ to_each all (Client 0) 0 ++ to_each all (Member 0) 0
    ++ to_each all (Member 0) 1 ++ to_each all (Member 1) 0 ++ to_each all (Member 2) 0 ++ to_each all (Member 3) 0
    ++ to_each all (Member 0) 2 ++ to_each but_0 (Member 1) 1 ++ to_each but_0 (Member 2) 1 ++ to_each all (Member 3) 1
    ++ from_each but_0 0 0 ++ from_each but_0 0 1

-- One of them comes late.
abbrev pub found : List Event
found = lost ++ Deliver (Member 1) (Member 0) 1 ∷ []

-- Member 0 has the slot prepared, and executes it only once a third Commit comes. All send what they owe once, whatever comes after.
abbrev pub PreparedIsNotCommitted : Type 0
PreparedIsNotCommitted =
    IsLegal (four 4 1) (later [] found)
    × (prepared (four 4 1) ((ran (four 4 1) lost).got (Member 0)) 1 ≡ Some a)
    × (executed (four 4 1) ((ran (four 4 1) lost).got (Member 0)) ≡ [])
    × (executed (four 4 1) ((ran (four 4 1) lost).got (Member 1)) ≡ a ∷ [])
    × (executed (four 4 1) ((ran (four 4 1) found).got (Member 0)) ≡ a ∷ [])
    × (length (ran (four 4 1) found).sent ≡ 48)

-- A faulty primary orders two requests in one slot at member 1, and sends it the first as if it were the client; the second came from its client.
abbrev pub reordered : List Event
reordered =
    Submit a ∷ Submit b ∷ Forge 0 (Member 1) (PrePrepare 1 a) ∷ Forge 0 (Member 1) (PrePrepare 1 b) ∷ Forge 0 (Member 1) (Request a)
    ∷ Deliver (Member 0) (Member 1) 0 ∷ Deliver (Client 1) (Member 1) 0 ∷ Deliver (Member 0) (Member 1) 1 ∷ Deliver (Member 0) (Member 1) 2 ∷ []

-- The first order counts, and only once its request comes from its client.
abbrev pub FirstOrderStands : Type 0
FirstOrderStands =
    IsLegal (four 0 2) (later [] (reordered ++ Deliver (Client 0) (Member 1) 0 ∷ []))
    × (endorsed (four 0 2) ((ran (four 0 2) reordered).got (Member 1)) 1 ≡ None)
    × (endorsed (four 0 2) ((ran (four 0 2) (reordered ++ Deliver (Client 0) (Member 1) 0 ∷ [])).got (Member 1)) 1 ≡ Some a)

-- The second request of client 0 comes to member 0 before the first.
abbrev pub hurried : List Event
hurried = Submit a ∷ Submit (0 ∷ 2 ∷ 7 ∷ []) ∷ Deliver (Client 0) (Member 0) 1 ∷ []

-- It is ordered after the first.
abbrev pub OrderedByNumber : Type 0
OrderedByNumber =
    IsLegal (four 4 1) (later [] (hurried ++ Deliver (Client 0) (Member 0) 0 ∷ []))
    × (orders (four 4 1) ((ran (four 4 1) hurried).got (Member 0)) ≡ [])
    × (orders (four 4 1) ((ran (four 4 1) (hurried ++ Deliver (Client 0) (Member 0) 0 ∷ [])).got (Member 0)) ≡ a ∷ (0 ∷ 2 ∷ 7 ∷ []) ∷ [])

-- Member 3 forges a heart twice, and those of members 1 and 2 are lost.
abbrev pub one_heart : List Event
one_heart =
    Submit a ∷ Forge 3 (Client 0) (Heart object 1 (7 ∷ [])) ∷ Forge 3 (Client 0) (Heart object 1 (7 ∷ []))
    ∷ to_each all (Client 0) 0 ++ from_each (3 ∷ []) 0 0 ++ from_each (3 ∷ []) 0 1 ++ to_each all (Member 0) 0
    ++ to_each all (Member 0) 1 ++ to_each all (Member 1) 0 ++ to_each all (Member 2) 0
    ++ to_each all (Member 0) 2 ++ to_each all (Member 1) 1 ++ to_each all (Member 2) 1
    ++ from_each but_3 0 0 ++ from_each (0 ∷ []) 0 1

-- No heart is believed before a second member sends it.
abbrev pub OneHeartIsNotBelieved : Type 0
OneHeartIsNotBelieved =
    IsLegal (four 3 1) (later [] (one_heart ++ from_each (1 ∷ []) 0 1))
    × (heart_of (four 3 1) object ((ran (four 3 1) one_heart).got (Client 0)) ≡ None)
    × (heart_of (four 3 1) object ((ran (four 3 1) (one_heart ++ from_each (1 ∷ []) 0 1)).got (Client 0)) ≡ Some (version 1 a))

-- A ring of one member, where all is delivered.
abbrev pub one : Ring
one = record (four 4 1) { f = 0 }

-- It executes one request.
abbrev pub delivered : List Event
delivered = Submit a ∷ Deliver (Client 0) (Member 0) 0 ∷ map (λ k. Deliver (Member 0) (Member 0) k) (0 ∷ 1 ∷ 2 ∷ []) ++ from_each (0 ∷ []) 0 0 ++ from_each (0 ∷ []) 0 1

-- The conditions of the laws of full delivery can be met.
abbrev pub FullDelivery : Type 0
FullDelivery =
    IsLegal one (later [] delivered) × AllDelivered one (ran one delivered)
    × (executed one ((ran one delivered).got (Member 0)) ≡ a ∷ [])
    × (heart_of one object ((ran one delivered).got (Client 0)) ≡ Some (version 1 a))

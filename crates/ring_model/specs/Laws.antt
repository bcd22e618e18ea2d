-- What is claimed of every list of events.
use Rattle.std.specs.Prelude.{◌≡◌, ℕ, zero, suc, ◌+◌, ◌-◌, ◌*◌, ◌<◌, ◌≤◌, Bool, true, false, not, ◌&&◌, List, ◌++◌, length, take, count_by, slice_get, bytes_eq, Option, Some, None, Contains}
use Rattle.std.specs.Option.{option_or}
use Rattle.std.specs.List.{sum_by, AllByRecursion}
use Rattle.ring_model.specs.Messages.{Party, Member, Client, Message, Request, PrePrepare, Prepare, Commit, Reply, Heart, Sealed, Foreign, Letter, Mark, Ring, members, FewFaulty}
use Rattle.ring_model.specs.History.{is_name, passing}
use Rattle.ring_model.specs.Member.{endorsed, prepared, committed, executed, executed_to, order_at}
use Rattle.ring_model.specs.Belief.{believed, replied, beating, sealing, heart_of}
use Rattle.ring_model.specs.World.{World, Event, Submit, Resubmit, Deliver, Forge, Archive, world, IsParty, IsLegal, chosen}

-- Two sets of 2f+1 of 3f+1 members share a correct one.
abbrev pub QuorumsMeet : Type 0
QuorumsMeet = (g : Ring) (p q : ℕ → Bool) → FewFaulty g → 2 * g.f + 1 ≤ count_by p (members g) → 2 * g.f + 1 ≤ count_by q (members g)
    → (i : ℕ) × (i < 3 * g.f + 1) × (p i ≡ true) × (q i ≡ true) × (g.is_faulty i ≡ false)

-- No two of these requests have one name.
abbrev pub NoClash : Ring → List (List ℕ) → Type 0
NoClash g texts = (a b : List ℕ) → Contains texts a → Contains texts b → g.h a ≡ g.h b → a ≡ b

-- The first list is a prefix of the second.
abbrev pub IsPrefix : {Y : Type 0} → List Y → List Y → Type 0
IsPrefix {Y} xs ys = (rest : List Y) × (xs ++ rest ≡ ys)

-- What a member that was given these letters may have sent: the items that it owes, one for each kind and slot, and its seals.
abbrev pub Owes : Ring → ℕ → List Letter → Party → Message → Type 0
Owes g i got to (Request r) = ⊥
Owes g i got to (PrePrepare k r) = (i ≡ 0) × (order_at g got k ≡ Some r)
Owes g i got to (Prepare s d) = (r : List ℕ) × (endorsed g got s ≡ Some r) × (g.h r ≡ d)
Owes g i got to (Commit s d) = (r : List ℕ) × (prepared g got s ≡ Some r) × (g.h r ≡ d)
Owes g i got to (Reply n outcome) = (s : ℕ) × (xs : List (List ℕ)) × (r : List ℕ) × (executed_to g got s ≡ Some xs) × (slice_get xs (length xs - 1) ≡ Some r) × (to ≡ Client (g.owner r)) × (g.number r ≡ n) × (g.outcome xs ≡ outcome)
Owes g i got to (Heart o v n) = (s : ℕ) × (xs : List (List ℕ)) × (executed_to g got s ≡ Some xs) × (g.heart xs ≡ Some (record { object = o; version = v; name = n }))
Owes g i got to (Sealed o v n) = (k : ℕ) × (slice_get (g.seals (executed g got)) k ≡ Some (record { object = o; version = v; name = n }))
Owes g i got to Foreign = ⊥

-- A client sends its submits alone.
abbrev pub Submitted : Ring → World → ℕ → Message → Type 0
Submitted g w c (Request r) = Contains w.submits r × (g.owner r ≡ c)
Submitted g w c _ = ⊥

-- A message that this party may have sent by now.
abbrev pub Right : Ring → World → Party → Party → Message → Type 0
Right g w (Client c) to m = Submitted g w c m
Right g w (Member i) to m = g.is_faulty i ≡ false → Owes g i (w.got (Member i)) to m

-- Every message of a correct party is one that it owes, and so is every one that was delivered.
pub record IsSound (g : Ring) (w : World) : Type 0 where
  pub sent : AllByRecursion (λ x. Right g w x.from x.to x.message) w.sent
  pub got : (p : Party) → AllByRecursion (λ l. Right g w l.from p l.message) (w.got p)

-- Whatever happens, correct parties send what they owe.
abbrev pub AllOwed : Type 0
AllOwed = (g : Ring) (events : List Event) → IsLegal g events → IsSound g (world g events)

-- Two requests that any two members hold for prepared at one slot have one name.
abbrev pub OneName : Type 0
OneName = (g : Ring) → FewFaulty g → (events : List Event) → IsLegal g events → (j k : Party) (s : ℕ) (a b : List ℕ)
    → prepared g ((world g events).got j) s ≡ Some a → prepared g ((world g events).got k) s ≡ Some b → g.h a ≡ g.h b

-- Each executed request was submitted by the client that it names.
abbrev pub OnlySubmitted : Type 0
OnlySubmitted = (g : Ring) (events : List Event) → IsLegal g events → (j : Party)
    → AllByRecursion (Contains (world g events).submits) (executed g ((world g events).got j))

-- Correct members' executed lists are prefixes of the committed list.
abbrev pub Agrees : Type 0
Agrees = (g : Ring) → FewFaulty g → (events : List Event) → IsLegal g events → NoClash g (world g events).submits
    → (i : ℕ) → i < 3 * g.f + 1 → g.is_faulty i ≡ false → IsPrefix (executed g ((world g events).got (Member i))) (chosen g (world g events))

-- The committed list only grows as events are added.
abbrev pub Grows : Type 0
Grows = (g : Ring) → FewFaulty g → (late events : List Event) → IsLegal g (late ++ events) → NoClash g (world g (late ++ events)).submits
    → IsPrefix (chosen g (world g events)) (chosen g (world g (late ++ events)))

-- whether the member is correct and holds the request for prepared at the slot
abbrev pub is_held : Ring → World → ℕ → List ℕ → ℕ → Bool
is_held g w s r i = not (g.is_faulty i) && is_name r (prepared g (w.got (Member i)) s)

-- Each request that is executed is prepared in its slot at f+1 correct members.
abbrev pub HeldByMany : Type 0
HeldByMany = (g : Ring) → FewFaulty g → (events : List Event) → IsLegal g events → NoClash g (world g events).submits → (j : Party) (s : ℕ) (r : List ℕ)
    → committed g ((world g events).got j) s ≡ Some r → g.f + 1 ≤ count_by (is_held g (world g events) s r) (members g)

-- So is each request of the committed list, in its slot.
abbrev pub ChosenIsHeld : Type 0
ChosenIsHeld = (g : Ring) → FewFaulty g → (events : List Event) → IsLegal g events → NoClash g (world g events).submits → (k : ℕ) (r : List ℕ)
    → slice_get (chosen g (world g events)) k ≡ Some r → g.f + 1 ≤ count_by (is_held g (world g events) (1 + k) r) (members g)

-- a correct member
abbrev pub IsCorrect : Ring → ℕ → Type 0
IsCorrect g i = (i < 3 * g.f + 1) × (g.is_faulty i ≡ false)

-- What a client believes, a correct member owes.
abbrev pub BelievedIsOwed : Type 0
BelievedIsOwed = (g : Ring) → FewFaulty g → (events : List Event) → IsLegal g events → (c : Party) (say : Message → Option (List ℕ)) (v : List ℕ)
    → believed g say ((world g events).got c) ≡ Some v
    → (i : ℕ) × (m : Message) × IsCorrect g i × (say m ≡ Some v) × Owes g i ((world g events).got (Member i)) c m

-- Each believed heart is that of a version which a prefix of the committed list makes.
abbrev pub BelievedHeart : Type 0
BelievedHeart = (g : Ring) → FewFaulty g → (events : List Event) → IsLegal g events → NoClash g (world g events).submits → (c : Party) (o : List ℕ) (v : ℕ) (n : List ℕ)
    → believed g (beating o v) ((world g events).got c) ≡ Some n
    → (xs : List (List ℕ)) × IsPrefix xs (chosen g (world g events)) × (g.heart xs ≡ Some (record { object = o; version = v; name = n }))

-- Each believed seal is that of a version which the committed list makes.
abbrev pub BelievedSeal : Type 0
BelievedSeal = (g : Ring) → FewFaulty g → (events : List Event) → IsLegal g events → NoClash g (world g events).submits → (c : Party) (o : List ℕ) (v : ℕ) (n : List ℕ)
    → believed g (sealing o v) ((world g events).got c) ≡ Some n
    → (k : ℕ) × (slice_get (g.seals (chosen g (world g events))) k ≡ Some (record { object = o; version = v; name = n }))

-- Each believed reply is the outcome at a slot of the committed list that holds that request.
abbrev pub BelievedReply : Type 0
BelievedReply = (g : Ring) → FewFaulty g → (events : List Event) → IsLegal g events → NoClash g (world g events).submits → (c n : ℕ) (v : List ℕ)
    → believed g (replied n) ((world g events).got (Client c)) ≡ Some v
    → (xs : List (List ℕ)) × (r : List ℕ) × IsPrefix xs (chosen g (world g events)) × (slice_get xs (length xs - 1) ≡ Some r) × (g.owner r ≡ c) × (g.number r ≡ n) × (g.outcome xs ≡ v)

-- Clients are correct.
abbrev pub IsHonest : Ring → Party → Type 0
IsHonest g (Client c) = Unit {0}
IsHonest g (Member i) = g.is_faulty i ≡ false

-- Each message from a correct party to a correct party was delivered at least once.
abbrev pub AllDelivered : Ring → World → Type 0
AllDelivered g w = AllByRecursion (λ x. IsHonest g x.from → IsHonest g x.to → Contains (w.got x.to) (record { from = x.from; message = x.message })) w.sent

-- Where member 0 is correct and all was delivered, each correct member has executed each submitted request.
abbrev pub AllExecuted : Type 0
AllExecuted = (g : Ring) → FewFaulty g → g.is_faulty 0 ≡ false → (events : List Event) → IsLegal g events → AllDelivered g (world g events)
    → (i : ℕ) → IsCorrect g i → (r : List ℕ) → Contains (world g events).submits r → Contains (executed g ((world g events).got (Member i))) r

-- Where member 0 is correct and all was delivered, each client believes the outcome of each of its requests, at a slot of the committed list that holds it.
abbrev pub AllAnswered : Type 0
AllAnswered = (g : Ring) → FewFaulty g → g.is_faulty 0 ≡ false → (events : List Event) → IsLegal g events → AllDelivered g (world g events) → (r : List ℕ) → Contains (world g events).submits r
    → (xs : List (List ℕ)) × IsPrefix xs (chosen g (world g events)) × (slice_get xs (length xs - 1) ≡ Some r) × (believed g (replied (g.number r)) ((world g events).got (Client (g.owner r))) ≡ Some (g.outcome xs))

-- The versions of an object rise along this list of requests.
abbrev pub VersionsRise : Ring → List (List ℕ) → Type 0
VersionsRise g xs = (a b : ℕ) (m n : Mark) → a < b → b ≤ length xs → g.heart (take a xs) ≡ Some m → g.heart (take b xs) ≡ Some n → m.object ≡ n.object → m.version < n.version

-- the last version of an object that the first n requests of a list make
abbrev pub last_made : Ring → List ℕ → List (List ℕ) → ℕ → Option Mark
last_made g o xs zero = None
last_made g o xs (suc n) = option_or (passing (λ m. bytes_eq m.object o) (g.heart (take (suc n) xs))) (last_made g o xs n)

-- Where member 0 is correct and all was delivered, each client's heart of an object is the last version that the committed list makes of it.
abbrev pub AllTold : Type 0
AllTold = (g : Ring) → FewFaulty g → g.is_faulty 0 ≡ false → (events : List Event) → IsLegal g events → AllDelivered g (world g events) → VersionsRise g (chosen g (world g events)) → (c : ℕ) → c < g.clients → (o : List ℕ)
    → heart_of g o ((world g events).got (Client c)) ≡ last_made g o (chosen g (world g events)) (length (chosen g (world g events)))

-- how many messages an event that is no delivery adds at most
abbrev pub adds : Ring → Event → ℕ
adds g (Submit r) = 3 * g.f + 1
adds g (Resubmit c n) = 3 * g.f + 1
adds g (Deliver p q k) = 0
adds g (Forge i q m) = 1
adds g (Archive i) = g.clients

-- Deliveries add a bounded number of messages, however many there are.
abbrev pub FewSent : Type 0
FewSent = (g : Ring) (events : List Event) → IsLegal g events
    → length (world g events).sent ≤ sum_by (adds g) events + (3 * g.f + 1) * (g.slots * (3 * (3 * g.f + 1) + (1 + g.clients)))

-- Each message ever sent goes from a declared party to a declared one.
abbrev pub SentDeclared : Type 0
SentDeclared = (g : Ring) (events : List Event) → IsLegal g events → AllByRecursion (λ x. IsParty g x.from × IsParty g x.to) (world g events).sent

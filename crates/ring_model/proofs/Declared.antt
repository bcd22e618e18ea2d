-- Messages go between declared parties.
use Rattle.std.proofs.Common.{◌≡◌, ℕ, ◌+◌, ◌-◌, ◌*◌, ◌<◌, true, false, cond, ◌&&◌, ◌==◌, List, [], ◌∷◌, ◌++◌, length, map, slice_get, find, Option, Some, None, refl, sym, ap, subst, arith}
use Rattle.std.specs.List.{range_with_len, AllByRecursion as Each}
use Rattle.ring_model.specs.Messages.{Ring, Letter, Packet, Message, Request, PrePrepare, Prepare, Commit, Heart, Sealed, Mark, Party, Member, Client, members, same_party, to_members, to_clients}
use Rattle.ring_model.specs.Member.{endorsed, prepared, committed, executed, executed_to, order_at, newly, hearts, answers, causes}
use Rattle.ring_model.specs.World.{World, Event, Submit, Resubmit, Deliver, Forge, Archive, asking, between, sends, came, turned, happens, world, IsParty, MayHappen}
use Rattle.ring_model.specs.Laws.{IsSound, SentDeclared}
use Rattle.ring_model.proofs.History.{same_some, Each-append, Each-at, run_holds}
use Rattle.ring_model.proofs.Owed.{Each-cond, Each-newly, Each-filter, found_there, same_party_refl, all_owed}
use Rattle.ring_model.proofs.Agreement.{endorsed_submitted, committed_parts}
use Rattle.ring_model.proofs.Chosen.{below}
use Rattle.ring_model.proofs.Believed.{taken_prefix}
use Rattle.ring_model.proofs.Lists.{Each-there}
use Rattle.ring_model.proofs.Ordered.{IsNumbered, all_numbered}

abbrev Fine : Ring → Packet → Type 0
Fine g x = IsParty g x.from × IsParty g x.to

Each-map-in : {X Y : Type 0} (P : X → Type 0) (Q : Y → Type 0) (f : X → Y) (xs : List X) → Each P xs → ((x : X) → P x → Q (f x)) → Each Q (map f xs)
Each-map-in P Q f [] h k = tt
Each-map-in P Q f (x ∷ xs) h k = (k x h.0, Each-map-in P Q f xs h.1 k)

members_fine : (g : Ring) (from : Party) (m : Message) → IsParty g from → Each (Fine g) (to_members g from m)
members_fine g from m h = Each-map-in (λ j. j < 3 * g.f + 1) (Fine g) (λ j. record { from = from; to = Member j; message = m }) (members g) (below 0 (3 * g.f + 1) (3 * g.f + 1) (omega arith)) (λ j low. (h, low))

clients_fine : (g : Ring) (from : Party) (m : Message) → IsParty g from → Each (Fine g) (to_clients g from m)
clients_fine g from m h = Each-map-in (λ c. c < g.clients) (Fine g) (λ c. record { from = from; to = Client c; message = m }) (range_with_len 0 g.clients) (below 0 g.clients g.clients (omega arith)) (λ c low. (h, low))

hearts_fine : (g : Ring) (i : ℕ) → i < 3 * g.f + 1 → (o : Option Mark) → Each (Fine g) (hearts g i o)
hearts_fine g i h None = tt
hearts_fine g i h (Some m) = clients_fine g (Member i) (Heart m.object m.version m.name) h

-- where each executed request's client is declared
answers_fine : (g : Ring) (i : ℕ) → i < 3 * g.f + 1 → (xs : List (List ℕ)) → Each (λ r. g.owner r < g.clients) xs → Each (Fine g) (answers g i xs)
answers_fine g i h xs owners =
    elim (slice_get xs (length xs - 1)) as (λ o. slice_get xs (length xs - 1) ≡ o → Each (Fine g) (answers g i xs)) [
      | None ↦ λ n. rw n tt
      | Some r ↦ λ n. rw n ((h, Each-at (λ r. g.owner r < g.clients) xs (length xs - 1) r owners n), hearts_fine g i h (g.heart xs))
    ] refl

Each-prefix : {X : Type 0} (P : X → Type 0) (xs rest : List X) → Each P (xs ++ rest) → Each P xs
Each-prefix P [] rest h = tt
Each-prefix P (x ∷ xs) rest h = (h.0, Each-prefix P xs rest h.1)

causes_fine : (g : Ring) (i : ℕ) (older got : List Letter) → i < 3 * g.f + 1 → Each (λ r. g.owner r < g.clients) (executed g got) → Each (Fine g) (causes g i older got)
causes_fine g i older got h owners =
    let P = Fine g in
    let a = Each-cond P (i == 0) (newly g (order_at g older) (order_at g got) (λ k r. to_members g (Member i) (PrePrepare k r)))
    (λ _. Each-newly g P (order_at g older) (order_at g got) (λ k r. to_members g (Member i) (PrePrepare k r)) (λ k r e. members_fine g (Member i) (PrePrepare k r) h)) in
    let b = Each-newly g P (endorsed g older) (endorsed g got) (λ s r. to_members g (Member i) (Prepare s (g.h r))) (λ s r e. members_fine g (Member i) (Prepare s (g.h r)) h) in
    let c = Each-newly g P (prepared g older) (prepared g got) (λ s r. to_members g (Member i) (Commit s (g.h r))) (λ s r e. members_fine g (Member i) (Commit s (g.h r)) h) in
    let d = Each-newly g P (executed_to g older) (executed_to g got) (λ s xs. answers g i xs)
    (λ s xs e. let prefix = taken_prefix s (executed g got) xs e in answers_fine g i h xs (Each-prefix (λ r. g.owner r < g.clients) xs prefix.0 (subst (Each (λ r. g.owner r < g.clients)) (sym prefix.1) owners))) in
    Each-append P _ _ (Each-append P _ _ (Each-append P _ _ a b) c) d

-- the clients of executed requests are declared
owners_known : (g : Ring) (w : World) → IsSound g w → Each (λ r. g.owner r < g.clients) w.submits → (j : Party) → Each (λ r. g.owner r < g.clients) (executed g (w.got j))
owners_known g w sound owners j =
    run_holds (committed g (w.got j)) (λ r. g.owner r < g.clients)
    (λ s r e. Each-there (λ r. g.owner r < g.clients) w.submits r owners (endorsed_submitted g w sound j s r (committed_parts g (w.got j) s r e).1)) g.slots 1

came_fine : (g : Ring) (w : World) (o : Option Packet) → Each (Fine g) w.sent → ((x : Packet) → o ≡ Some x → IsParty g x.to)
    → ((j : Party) → Each (λ r. g.owner r < g.clients) (executed g ((came g w o).got j))) → Each (Fine g) (came g w o).sent
came_fine g w None fine to owners = fine
came_fine g w (Some x) fine to owners = Each-append (Fine g) w.sent (sends g x.to (w.got x.to) (l ∷ w.got x.to)) fine (by x.to refl (to x refl))
  where
    l : Letter
    l = record { from = x.from; message = x.message }

    by : (q : Party) → x.to ≡ q → IsParty g q → Each (Fine g) (sends g q (w.got q) (l ∷ w.got q))
    by (Client c) e party = tt
    by (Member i) e party =
        let now : (came g w (Some x)).got (Member i) ≡ l ∷ w.got (Member i) = ap (λ b. cond b (l ∷ w.got (Member i)) (w.got (Member i))) (subst (λ p. same_party p (Member i) ≡ true) (sym e) (same_party_refl (Member i))) in
        let known = subst (λ got. Each (λ r. g.owner r < g.clients) (executed g got)) now (owners (Member i)) in
        elim (g.is_faulty i) as (λ b. Each (Fine g) (cond b [] (causes g i (w.got (Member i)) (l ∷ w.got (Member i))))) [
          | true ↦ tt
          | false ↦ causes_fine g i (w.got (Member i)) (l ∷ w.got (Member i)) party known
        ]

asking_fine : (g : Ring) (o : Option (List ℕ)) → ((r : List ℕ) → o ≡ Some r → g.owner r < g.clients) → Each (Fine g) (asking g o)
asking_fine g None h = tt
asking_fine g (Some r) h = members_fine g (Client (g.owner r)) (Request r) (h r refl)

turned_fine : (g : Ring) (w : World) (i : ℕ) (o : Option Mark) → i < 3 * g.f + 1 → Each (Fine g) w.sent → Each (Fine g) (turned g w i o).sent
turned_fine g w i None h fine = fine
turned_fine g w i (Some m) h fine = Each-append (Fine g) w.sent (to_clients g (Member i) (Sealed m.object m.version m.name)) fine (clients_fine g (Member i) (Sealed m.object m.version m.name) h)

pub sent_declared : SentDeclared
sent_declared g [] legal = tt
sent_declared g (e ∷ events) legal = step e legal.0 (sent_declared g events legal.1) (all_numbered g events legal.1) (λ j. owners_known g (world g (e ∷ events)) (all_owed g (e ∷ events) legal) (all_numbered g (e ∷ events) legal).owners j)
  where
    step : (e : Event) → MayHappen g (world g events) e → Each (Fine g) (world g events).sent → IsNumbered g (world g events).submits
        → ((j : Party) → Each (λ r. g.owner r < g.clients) (executed g ((happens g (world g events) e).got j))) → Each (Fine g) (happens g (world g events) e).sent
    step (Submit r) may fine nums owners = Each-append (Fine g) (world g events).sent (asking g (Some r)) fine (asking_fine g (Some r) (λ t e. subst (λ t. g.owner t < g.clients) (same_some r t e) may.1))
    step (Resubmit c n) may fine nums owners =
        let o = find (λ r. g.owner r == c && g.number r == n) (world g events).submits in
        Each-append (Fine g) (world g events).sent (asking g o) fine
        (asking_fine g o (λ t e. Each-there (λ r. g.owner r < g.clients) (world g events).submits t nums.owners (found_there (λ r. g.owner r == c && g.number r == n) (world g events).submits t e)))
    step (Deliver p q k) may fine nums owners =
        let sent = (world g events).sent in
        came_fine g (world g events) (slice_get (between p q sent) k) fine
        (λ x e. (Each-at (Fine g) (between p q sent) k x (Each-filter (Fine g) (λ y. same_party y.from p && same_party y.to q) sent fine) e).1) owners
    step (Forge i q m) may fine nums owners = Each-append (Fine g) (world g events).sent (record { from = Member i; to = q; message = m } ∷ []) fine ((may.1, may.2), tt)
    step (Archive i) may fine nums owners = turned_fine g (world g events) i (slice_get (g.seals (executed g ((world g events).got (Member i)))) ((world g events).archived i)) may.1 fine

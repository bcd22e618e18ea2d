-- The schedules, computed.
use Rattle.std.proofs.Common.{◌≡◌, ◌+◌, ◌*◌, Bool, true, false, ◌==◌, ◌&&◌, nat_lt, List, [], ◌∷◌, ◌++◌, length, count_by, refl, arith}
use Rattle.std.proofs.lemmas.Bool.{and_parts, eqb-true, ltb-true}
use Rattle.ring_model.specs.Messages.{Ring, Party, Member, Client}
use Rattle.ring_model.specs.World.{World, Event, Submit, Resubmit, Deliver, Forge, Archive, happens, world, IsParty, MayHappen, IsLegal}
use Rattle.ring_model.specs.Schedules.{four, later, twice, voted, two_senders, muted, found, PrimaryOrdersTwice, PrimaryEquivocates, TwoSendersAreNotThree, MutedMember, PreparedIsNotCommitted, FirstOrderStands, OrderedByNumber, OneHeartIsNotBelieved, FullDelivery, one, delivered, reordered, hurried, one_heart, from_each}

is_party : Ring → Party → Bool
is_party g (Member i) = nat_lt i (3 * g.f + 1)
is_party g (Client c) = nat_lt c g.clients

party : (g : Ring) (p : Party) → is_party g p ≡ true → IsParty g p
unfolding is_party
party g (Member i) e = ltb-true i (3 * g.f + 1) e
party g (Client c) e = ltb-true c g.clients e

-- a test of an event, which passes only where it may happen
may : Ring → World → Event → Bool
may g w (Submit r) = nat_lt (length w.submits) g.slots && nat_lt (g.owner r) g.clients && g.number r == count_by (λ t. g.owner t == g.owner r) w.submits + 1
may g w (Deliver p q k) = is_party g p && is_party g q
may g w (Forge i q m) = g.is_faulty i && is_party g (Member i) && is_party g q
may g w _ = false

all_may : Ring → World → List Event → Bool
all_may g w [] = true
all_may g w (e ∷ es) = may g w e && all_may g (happens g w e) es

may_happen : (g : Ring) (w : World) (e : Event) → may g w e ≡ true → MayHappen g w e
unfolding may
may_happen g w (Submit r) h =
    let p = and_parts (nat_lt (length w.submits) g.slots && nat_lt (g.owner r) g.clients) (g.number r == count_by (λ t. g.owner t == g.owner r) w.submits + 1) h in
    let q = and_parts (nat_lt (length w.submits) g.slots) (nat_lt (g.owner r) g.clients) p.0 in
    (ltb-true (length w.submits) g.slots q.0, ltb-true (g.owner r) g.clients q.1, eqb-true (g.number r) (count_by (λ t. g.owner t == g.owner r) w.submits + 1) p.1)
may_happen g w (Deliver p q k) h = let r = and_parts (is_party g p) (is_party g q) h in (party g p r.0, party g q r.1)
may_happen g w (Forge i q m) h =
    let r = and_parts (g.is_faulty i && is_party g (Member i)) (is_party g q) h in
    let s = and_parts (g.is_faulty i) (is_party g (Member i)) r.0 in
    (s.0, party g (Member i) s.1, party g q r.1)
may_happen g w (Resubmit c n) h = absurd (cc h)
may_happen g w (Archive i) h = absurd (cc h)

legal : (g : Ring) (events es : List Event) → all_may g (world g events) es ≡ true → IsLegal g events → IsLegal g (later events es)
unfolding all_may
legal g events [] h l = l
legal g events (e ∷ es) h l =
    let p = and_parts (may g (world g events) e) (all_may g (happens g (world g events) e) es) h in
    legal g (e ∷ events) es p.1 (may_happen g (world g events) e p.0, l)

pub primary_orders_twice : PrimaryOrdersTwice
unfolding all_may may is_party
primary_orders_twice = (legal (four 0 1) [] twice refl tt, refl, refl, refl)

pub primary_equivocates : PrimaryEquivocates
unfolding all_may may is_party
primary_equivocates = (legal (four 0 2) [] voted refl tt, refl, refl, refl, refl, refl, refl)

pub two_senders_are_not_three : TwoSendersAreNotThree
unfolding all_may may is_party
two_senders_are_not_three = (legal (four 3 1) [] two_senders refl tt, refl, refl, refl, refl)

pub muted_member : MutedMember
unfolding all_may may is_party
muted_member = (legal (four 4 1) [] muted refl tt, refl, refl, refl)

pub prepared_is_not_committed : PreparedIsNotCommitted
unfolding all_may may is_party
prepared_is_not_committed = (legal (four 4 1) [] found refl tt, refl, refl, refl, refl, refl)

pub first_order_stands : FirstOrderStands
unfolding all_may may is_party
first_order_stands = (legal (four 0 2) [] (reordered ++ Deliver (Client 0) (Member 1) 0 ∷ []) refl tt, refl, refl)

pub ordered_by_number : OrderedByNumber
unfolding all_may may is_party
ordered_by_number = (legal (four 4 1) [] (hurried ++ Deliver (Client 0) (Member 0) 0 ∷ []) refl tt, refl, refl)

pub one_heart_is_not_believed : OneHeartIsNotBelieved
unfolding all_may may is_party
one_heart_is_not_believed = (legal (four 3 1) [] (one_heart ++ from_each (1 ∷ []) 0 1) refl tt, refl, refl)

pub full_delivery : FullDelivery
unfolding all_may may is_party
full_delivery = (
  legal one [] delivered refl tt,
  (λ _ _. (3, omega arith, refl), (λ _ _. (2, omega arith, refl), (λ _ _. (1, omega arith, refl), (λ _ _. (0, omega arith, refl), (λ _ _. (1, omega arith, refl), (λ _ _. (0, omega arith, refl), tt)))))),
  refl,
  refl,
)

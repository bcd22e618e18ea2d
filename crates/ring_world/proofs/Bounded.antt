-- The number of messages.
use Rattle.std.proofs.Common.{◌≡◌, ◌+◌, ◌*◌, ◌≤◌, cond, List, [], ◌∷◌, length, slice_get, count_by, ap, arith, length-append}
use Rattle.std.specs.List.{sum_by}
use Rattle.std.proofs.lemmas.List.Sums.{sum_by-cons}
use Rattle.std.proofs.Math.Nat.{mul-le-mul}
use Rattle.ring_model.specs.Messages.{Ring, Member as member}
use Rattle.ring_model.specs.Member.{executed}
use Rattle.ring_model.specs.World.{World, Event, Submit, Resubmit, Deliver, Forge, Archive, world, happens, between}
use Rattle.ring_model.specs.Laws.{adds}
use Rattle.ring_model.proofs.Few.{few_sent}
use Rattle.ring_model.proofs.Ordered.{all_numbered}
use Rattle.ring_world.specs.Worlds.{IsSmall}
use Rattle.ring_world.specs.Bound.{is_other, PlacesFit}
use Rattle.ring_world.proofs.Order.{came_submits, turned_submits}

other_cons : (e : Event) (events : List Event) → count_by is_other (e ∷ events) ≡ cond (is_other e) 1 0 + count_by is_other events
other_cons e events = sum_by-cons (λ e. cond (is_other e) 1 0) e events

adds_few : (g : Ring) → IsSmall g → (events : List Event) → sum_by (adds g) events ≤ 10 * length (world g events).submits + 16 * count_by is_other events
adds_few g ring [] = omega arith
adds_few g ring (e ∷ events) = step e (adds_few g ring events) (sum_by-cons (adds g) e events) (other_cons e events)
  where
    w : World
    w = world g events

    step : (e : Event) → sum_by (adds g) events ≤ 10 * length (world g events).submits + 16 * count_by is_other events → sum_by (adds g) (e ∷ events) ≡ adds g e + sum_by (adds g) events
        → count_by is_other (e ∷ events) ≡ cond (is_other e) 1 0 + count_by is_other events → sum_by (adds g) (e ∷ events) ≤ 10 * length (happens g (world g events) e).submits + 16 * count_by is_other (e ∷ events)
    step (Submit r) h s o = omega (arith, h, s, o, ring.few, length-append (world g events).submits (r ∷ []))
    step (Resubmit c n) h s o = omega (arith, h, s, o, ring.few)
    step (Deliver p q k) h s o = omega (arith, h, s, o, ap length (came_submits g (world g events) (slice_get (between p q (world g events).sent) k)))
    step (Forge i q m) h s o = omega (arith, h, s, o)
    step (Archive i) h s o = omega (arith, h, s, o, ring.few_clients, ap length (turned_submits g (world g events) i (slice_get (g.seals (executed g ((world g events).got (member i)))) ((world g events).archived i))))

pub places_fit : PlacesFit
places_fit g ring events legal few =
    let a = few_sent g events legal in
    let b = adds_few g ring events in
    let c = (all_numbered g events legal).few in
    let inner : 3 * (3 * g.f + 1) + (1 + g.clients) ≤ 47 = omega (arith, ring.few, ring.few_clients) in
    let slots : g.slots ≤ 65536 = omega (arith, ring.slots) in
    let members : 3 * g.f + 1 ≤ 10 = omega (arith, ring.few) in
    let each : g.slots * (3 * (3 * g.f + 1) + (1 + g.clients)) ≤ 65536 * 47 = mul-le-mul slots inner in
    let all : (3 * g.f + 1) * (g.slots * (3 * (3 * g.f + 1) + (1 + g.clients))) ≤ 10 * (65536 * 47) = mul-le-mul members each in
    omega (arith, a, b, c, all, few, slots)

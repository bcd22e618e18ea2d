-- The events of a settle, whose steps are counted from either end.
use Rattle.std.proofs.Common.{◌≡◌, ℕ, zero, suc, ◌+◌, ◌-◌, ◌≤◌, Bool, List, [], ◌∷◌, ◌++◌, slice_get, Option, Some, None, refl, sym, ap, ◌∙◌, arith, append_assoc}
use Rattle.ring_model.specs.Messages.{Ring}
use Rattle.ring_model.specs.World.{Event, Deliver, between, world, IsParty, IsLegal}
use Rattle.ring_model.proofs.Owed.{found_there}
use Rattle.ring_model.proofs.Lists.{at_there}
use Rattle.ring_model.specs.Places.{Place, places, is_due}
use Rattle.ring_model.specs.Deliveries.{deliveries, pending, then_deliver, settled}
use Rattle.ring_world.proofs.Order.{came_submits}
use Rattle.ring_world.proofs.Settling.{place_declared}
use Rattle.text_model.specs.Events.{settled_by}

-- a step more, where so much is pending
abbrev with_step : Ring → (Place → Bool) → ℕ → List Event → Option Place → List Event
with_step g passed most events None = events
with_step g passed most events (Some place) = settled_by g passed most (Deliver place.from place.to place.place ∷ events)

-- where nothing is pending, nothing is done
pub settled_none : (g : Ring) (passed : Place → Bool) (most : ℕ) (events : List Event) → pending g passed events ≡ None → settled_by g passed most events ≡ events
settled_none g passed zero events none = refl
settled_none g passed (suc most) events none = ap (with_step g passed most events) none

-- a step at the end of some is the first step of the rest
one_further : (g : Ring) (passed : Place → Bool) (most : ℕ) (late events : List Event) (o : Option Place) → pending g passed (late ++ events) ≡ o
    → settled_by g passed (suc most) (late ++ events) ≡ settled_by g passed most (then_deliver o late ++ events)
one_further g passed most late events None e = ap (with_step g passed most (late ++ events)) e ∙ sym (settled_none g passed most (late ++ events) e)
one_further g passed most late events (Some place) e = ap (with_step g passed most (late ++ events)) e

-- after the first steps come the others
pub settled_further : (g : Ring) (passed : Place → Bool) (events : List Event) (n most : ℕ) → settled_by g passed (n + most) events ≡ settled_by g passed most (settled g passed events n ++ events)
settled_further g passed events zero most = let same : zero + most ≡ most = omega arith in ap (λ k. settled_by g passed k events) same
settled_further g passed events (suc n) most =
    let same : suc n + most ≡ n + suc most = omega arith in
    ap (λ k. settled_by g passed k events) same ∙ settled_further g passed events n (suc most)
    ∙ one_further g passed most (settled g passed events n) events (pending g passed (settled g passed events n ++ events)) refl

-- what is settled stands before the events
pub settled_before : (g : Ring) (passed : Place → Bool) (most : ℕ) (events : List Event) → (late : List Event) × (settled_by g passed most events ≡ late ++ events)
settled_before g passed zero events = ([], refl)
settled_before g passed (suc most) events =
    elim (pending g passed events) as (λ o. (late : List Event) × (with_step g passed most events o ≡ late ++ events)) [
      | None ↦ ([], refl)
      | Some place ↦
          let rest = settled_before g passed most (Deliver place.from place.to place.place ∷ events) in
          (rest.0 ++ Deliver place.from place.to place.place ∷ [], rest.1 ∙ sym (append_assoc rest.0 (Deliver place.from place.to place.place ∷ []) events))
    ]

-- ---- so many steps

pub reached : (g : Ring) (passed : Place → Bool) (events : List Event) (n most : ℕ) → n ≤ most → (late : List Event) × (settled_by g passed most events ≡ late ++ (settled g passed events n ++ events))
reached g passed events n most low =
    let same : most ≡ n + (most - n) = omega arith in
    let rest = settled_before g passed (most - n) (settled g passed events n ++ events) in
    (rest.0, ap (λ k. settled_by g passed k events) same ∙ settled_further g passed events n (most - n) ∙ rest.1)

pub joins : (g : Ring) (passed : Place → Bool) (events : List Event) (n most : ℕ) → n ≤ most → pending g passed (settled g passed events n ++ events) ≡ None → settled_by g passed most events ≡ settled g passed events n ++ events
joins g passed events n most low none =
    let same : most ≡ n + (most - n) = omega arith in
    ap (λ k. settled_by g passed k events) same ∙ settled_further g passed events n (most - n) ∙ settled_none g passed (most - n) (settled g passed events n ++ events) none

-- ---- the ring

-- what is pending goes between declared parties
pending_declared : (g : Ring) (passed : Place → Bool) (events : List Event) (a : Place) → IsLegal g events → pending g passed events ≡ Some a → IsParty g a.from × IsParty g a.to
pending_declared g passed events a legal is =
    let at = at_there (places (world g events).sent) a (found_there (is_due passed (deliveries g events)) (places (world g events).sent) a is) in
    place_declared g events at.0 a legal at.1

-- a settle is legal
pub settle_legal : (g : Ring) (passed : Place → Bool) (most : ℕ) (events : List Event) → IsLegal g events → IsLegal g (settled_by g passed most events)
settle_legal g passed zero events legal = legal
settle_legal g passed (suc most) events legal =
    elim (pending g passed events) as (λ o. pending g passed events ≡ o → IsLegal g (with_step g passed most events o)) [
      | None ↦ λ _. legal
      | Some a ↦ λ is. settle_legal g passed most (Deliver a.from a.to a.place ∷ events) (pending_declared g passed events a legal is, legal)
    ] refl

-- and submits nothing
pub settle_submits : (g : Ring) (passed : Place → Bool) (most : ℕ) (events : List Event) → (world g (settled_by g passed most events)).submits ≡ (world g events).submits
settle_submits g passed zero events = refl
settle_submits g passed (suc most) events =
    elim (pending g passed events) as (λ o. (world g (with_step g passed most events o)).submits ≡ (world g events).submits) [
      | None ↦ refl
      | Some a ↦ settle_submits g passed most (Deliver a.from a.to a.place ∷ events) ∙ came_submits g (world g events) (slice_get (between a.from a.to (world g events).sent) a.place)
    ]

-- Which events may come next, by the values of a world and by the events so far.
use Rattle.std.proofs.Common.{◌≡◌, ℕ, zero, suc, ◌+◌, ◌-◌, ◌*◌, ◌<◌, ◌≤◌, Bool, true, false, cond, ◌==◌, ◌&&◌, List, [], ◌∷◌, length, filter, count_by, get_or, nat_lt, nat_le, None, ⊎_elim, refl, sym, ap, ◌∙◌, subst, arith}
use Rattle.std.specs.List.{sum_by, range_with_len, AllByRecursion as Each}
use Rattle.std.proofs.lemmas.Bool.{eqb-true, eq-eqb, ne_eqb, cases_lt}
use Rattle.std.proofs.lemmas.List.Sums.{sum_by-cons, length-filter}
use Rattle.std.proofs.lemmas.Option.{slice_get-get_or}
use Rattle.guarded_update.specs.declared.request.Request.{Request as Asking}
use Rattle.guarded_update.specs.Fitting.{IsRequest, update_fits, request_fits}
use Rattle.guarded_update.specs.Spelling.{request_string}
use Rattle.guarded_update.proofs.Sizes.{both, is_le, fitting_clauses}
use Rattle.ring_model.specs.Messages.{Ring, Party, Member as member, Client as client}
use Rattle.ring_model.specs.World as model
use Rattle.ring_model.specs.World.{World as Model, world, IsParty, MayHappen}
use Rattle.ring_model.proofs.History.{Each-at}
use Rattle.ring_model.proofs.Lists.{filter_there, at_in}
use Rattle.ring_model.proofs.Ordered.{all_numbered}
use Rattle.message_model.specs.Meaning.{who}
use Rattle.message_model.specs.Reading.{IsRingOf}
use Rattle.client_core.specs.declared.client.Client.{Client}
use Rattle.ring_model.specs.Places.{Place}
use Rattle.ring_world.specs.declared.event.Event.{Event}
use Rattle.ring_world.specs.declared.event.Event.TheVariants.{Submit, Resubmit, Deliver, Forge}
use Rattle.ring_world.specs.declared.state.World.{World}
use Rattle.ring_world.specs.Conditions.{MayStep, FitsPlaces}
use Rattle.ring_model.specs.Deliveries.{deliveries}
use Rattle.ring_world.specs.Standing.{Standing}
use Rattle.ring_world.proofs.Standing.{faulty_at, none_at}
use Rattle.ring_world.specs.Steps.{IsStep, IsNext, IsDeclared, all_asked}
use Rattle.ring_world.specs.Worlds.{IsWorld, WorldStands, next_request, event_of}
use Rattle.ring_world.proofs.Fits.{step_fits}
use Rattle.ring_world.proofs.Order.{all_in_order}
use Rattle.ring_world.proofs.Requests.{numbered_next, some_item}
use Rattle.ring_world.proofs.Telling.{of}

-- ---- sums

sum_add : (u v : ℕ → ℕ) (xs : List ℕ) → sum_by (λ c. u c + v c) xs ≡ sum_by u xs + sum_by v xs
sum_add u v [] = refl
sum_add u v (x ∷ xs) = omega (arith, sum_add u v xs, sum_by-cons (λ c. u c + v c) x xs, sum_by-cons u x xs, sum_by-cons v x xs)

sum_same : (u v : ℕ → ℕ) (xs : List ℕ) → ((c : ℕ) → u c ≡ v c) → sum_by u xs ≡ sum_by v xs
sum_same u v [] same = refl
sum_same u v (x ∷ xs) same = omega (arith, same x, sum_same u v xs same, sum_by-cons u x xs, sum_by-cons v x xs)

sum_zero : (xs : List ℕ) → sum_by {X = ℕ} (λ c. 0) xs ≡ 0
sum_zero [] = refl
sum_zero (x ∷ xs) = omega (arith, sum_zero xs, sum_by-cons {X = ℕ} (λ c. 0) x xs)

abbrev is_at : ℕ → ℕ → ℕ
is_at m c = cond (m == c) 1 0

-- a number stands in no range above it
above : (m a n : ℕ) → m < a → sum_by (is_at m) (range_with_len a n) ≡ 0
above m a zero low = refl
above m a (suc n) low =
    let here : is_at m a ≡ 0 = ap {B = ℕ} (λ b. cond b 1 0) (ne_eqb m a (λ same. absurd (omega (arith, same, low)))) in
    omega (arith, here, above m (a + 1) n (omega (arith, low)), sum_by-cons (is_at m) a (range_with_len (a + 1) n))

-- and once in one that has it
once : (m a n : ℕ) → a ≤ m → m < a + n → sum_by (is_at m) (range_with_len a n) ≡ 1
once m a zero low high = absurd (omega (arith, low, high))
once m a (suc n) low high =
    ⊎_elim
    (λ less.
    let here : is_at m a ≡ 0 = ap {B = ℕ} (λ b. cond b 1 0) (ne_eqb m a (λ same. absurd (omega (arith, same, less)))) in
    omega (arith, here, once m (a + 1) n (omega (arith, less)) (omega (arith, high)), sum_by-cons (is_at m) a (range_with_len (a + 1) n)))
    (λ more.
    let same : m ≡ a = omega (arith, low, more) in
    let here : is_at m a ≡ 1 = ap {B = ℕ} (λ b. cond b 1 0) (eq-eqb m a same) in
    omega (arith, here, above m (a + 1) n (omega (arith, same)), sum_by-cons (is_at m) a (range_with_len (a + 1) n)))
    (cases_lt a m)

-- each request is counted for its client
all_counted : (g : Ring) (n : ℕ) (rs : List (List ℕ)) → Each (λ r. g.owner r < n) rs → sum_by (λ c. count_by (of g c) rs) (range_with_len 0 n) ≡ length rs
all_counted g n [] all = sum_zero (range_with_len 0 n)
all_counted g n (r ∷ rs) all =
    let split = sum_same (λ c. count_by (of g c) (r ∷ rs)) (λ c. is_at (g.owner r) c + count_by (of g c) rs) (range_with_len 0 n) (λ c. sum_by-cons (λ t. cond (of g c t) 1 0) r rs) in
    let added = sum_add (is_at (g.owner r)) (λ c. count_by (of g c) rs) (range_with_len 0 n) in
    let one = once (g.owner r) 0 n (omega arith) (omega (arith, all.0)) in
    omega (arith, split, added, one, all_counted g n rs all.1)

-- a sum over items is one over their places
by_places : {X : Type 0} (f : X → ℕ) (count : ℕ → ℕ) (xs : List X) (a : ℕ) → ((k : ℕ) (d : X) → k < length xs → f (get_or xs k d) ≡ count (a + k)) → sum_by f xs ≡ sum_by count (range_with_len a (length xs))
by_places f count [] a each = refl
by_places f count (x ∷ xs) a each =
    let here : f x ≡ count (a + 0) = each 0 x (omega arith) in
    let same : a + 0 ≡ a = omega arith in
    let at : count (a + 0) ≡ count a = ap count same in
    let rest = by_places f count xs (a + 1) (λ k d low. let next : a + suc k ≡ a + 1 + k = omega arith in each (suc k) d (omega (arith, low)) ∙ ap count next) in
    omega (arith, here, at, rest, sum_by-cons f x xs, sum_by-cons count a (range_with_len (a + 1) (length xs)))

-- the clients of a world submitted all that was submitted
world_counted : {N : Type 0} (stands : Standing N) (g : Ring) (w : World N) (v : Model) (done : List Place) → IsWorld stands g w v done → Each (λ r. g.owner r < g.clients) v.submits → all_asked w ≡ length v.submits
world_counted stands g w v done h owners =
    by_places (λ (c : Client). length c.requests.items) (λ c. count_by (of g c) v.submits) w.clients.items 0 (λ k d low. let same : k ≡ 0 + k = omega arith in numbered_next stands g w v done k d low h ∙ ap (λ j. count_by (of g j) v.submits) same)
    ∙ ap (λ n. sum_by (λ c. count_by (of g c) v.submits) (range_with_len 0 n)) h.client_count ∙ all_counted g g.clients v.submits owners

-- ---- events

-- a party of the world is declared
declared_party : {N : Type 0} (stands : Standing N) (g : Ring) (w : World N) (events : List model.Event) (p : Party) → WorldStands stands g w events → IsDeclared w p → IsParty g p
declared_party stands g w events (member i) s d = omega (arith, d.1, s.is.members_are.count)
declared_party stands g w events (client c) s d = omega (arith, d.1, s.is.client_count)

is_lt : (n k : ℕ) → n < k → nat_lt n k ≡ true
is_lt n k p = grind arith

-- what passes a filter passes its test
each_passes : {X : Type 0} (t : X → Bool) (xs : List X) → Each (λ x. t x ≡ true) (filter t xs)
each_passes t [] = tt
each_passes t (x ∷ xs) =
    elim (t x) as (λ b. t x ≡ b → Each (λ x. t x ≡ true) (cond b (x ∷ filter t xs) (filter t xs))) [
      | true ↦ λ e. (e, each_passes t xs)
      | false ↦ λ e. each_passes t xs
    ] refl

-- an event that may come by the world's values may come in the model
pub next_comes : {N : Type 0} (stands : Standing N) (h : List ℕ → List ℕ) (g : Ring) (w : World N) (events : List model.Event) (e : Event) → IsRingOf h g → WorldStands stands g w events → IsNext w e → FitsPlaces e
    → MayHappen g (world g events) (event_of g (world g events) e)
next_comes stands h g w events (Submit c label update) ring s next places =
    let v = world g events in
    let r : Asking = next_request g v c.0 label update in
    let d : Client = some_item w.clients.items (omega (arith, next.0.0.1)) in
    let size : length (get_or w.clients.items c.0 d).requests.items ≡ count_by (of g c.0) v.submits = numbered_next stands g w v (deliveries g events) c.0 d next.0.0.1 s.is in
    let few : count_by (of g c.0) v.submits < 65536 = omega (arith, size, next.0.1 d) in
    let fits : request_fits r ≡ true = both (nat_lt c.0 16 && nat_le 1 r.number) (update_fits update) (both (nat_lt c.0 16) (nat_le 1 r.number) (is_lt c.0 16 next.0.0.0) (is_le 1 r.number (omega arith))) next.0.2 in
    let is : IsRequest r = record { fits = fits; places = record { number = omega (arith, few); label = places.0; few = omega (arith, (fitting_clauses r fits).0); clauses = places.1 } } in
    let owner : g.owner (request_string r) ≡ c.0 = ring.owners r is in
    let number : g.number (request_string r) ≡ count_by (of g c.0) v.submits + 1 = ring.numbers r is in
    let all : all_asked w ≡ length v.submits = world_counted stands g w v (deliveries g events) s.is (all_numbered g events s.legal).owners in
    let mine : c.0 < g.clients = omega (arith, next.0.0.1, s.is.client_count) in (
      omega (arith, all, next.1, s.is.small.slots),
      subst (λ k. k < g.clients) (sym owner) mine,
      subst (λ k. g.number (request_string r) ≡ count_by (of g k) v.submits + 1) (sym owner) number,
    )
next_comes stands h g w events (Resubmit c n) ring s next places =
    let v = world g events in
    let own : List ℕ → Bool = of g c.0 in
    let mine : List (List ℕ) = filter own v.submits in
    let d : Client = some_item w.clients.items (omega (arith, next.0.1)) in
    let size : length (get_or w.clients.items c.0 d).requests.items ≡ count_by own v.submits = numbered_next stands g w v (deliveries g events) c.0 d next.0.1 s.is in
    let all : length mine ≡ count_by own v.submits = length-filter own v.submits in
    let request : List ℕ = get_or mine (n - 1) [] in
    let here = slice_get-get_or mine (n - 1) [] (omega (arith, size, all, next.1, next.2 d)) in
    let number : g.number request ≡ n - 1 + 1 = all_in_order g events s.legal c.0 (n - 1) request here in (
      request,
      filter_there own v.submits request (at_in mine (n - 1) request here),
      eqb-true (g.owner request) c.0 (Each-at (λ r. own r ≡ true) mine (n - 1) request (each_passes own v.submits) here),
      omega (arith, number, next.1),
    )
next_comes stands h g w events (Deliver p q k) ring s next places = (declared_party stands g w events (who p) s next.0, declared_party stands g w events (who q) s next.1)
next_comes stands h g w events (Forge i q bytes) ring s next places =
    let there : i.0 < 3 * g.f + 1 = declared_party stands g w events (member i.0) s next.0.0 in (
      faulty_at stands g w.members (world g events).got (world g events).archived i.0 None s.is.members_are there (sym (next.1 None)) refl,
      there,
      declared_party stands g w events (who q) s next.0.1,
    )

-- and one that may come in the model, by the world's values
pub comes_next : {N : Type 0} (stands : Standing N) (g : Ring) (w : World N) (events : List model.Event) (e : Event) → WorldStands stands g w events → MayStep g (world g events) e
    → MayHappen g (world g events) (event_of g (world g events) e) → IsNext w e
comes_next stands g w events (Submit c label update) s step may =
    let all : all_asked w ≡ length (world g events).submits = world_counted stands g w (world g events) (deliveries g events) s.is (all_numbered g events s.legal).owners in
    (step_fits stands g w events (Submit c label update) s step, omega (arith, all, may.0, s.is.small.slots))
comes_next stands g w events (Resubmit c n) s step may = step_fits stands g w events (Resubmit c n) s step
comes_next stands g w events (Deliver p q k) s step may = step_fits stands g w events (Deliver p q k) s step
comes_next stands g w events (Forge i q bytes) s step may = (step_fits stands g w events (Forge i q bytes) s step, λ d. none_at stands g w.members (world g events).got (world g events).archived i.0 d s.is.members_are may.1 may.0)

-- a step can do it
pub next_step : {N : Type 0} (w : World N) (e : Event) → IsNext w e → IsStep w e
next_step w (Submit c label update) next = next.0
next_step w (Resubmit c n) next = next
next_step w (Deliver p q k) next = next
next_step w (Forge i q bytes) next = next.0

-- What a step asks for.
use Rattle.std.proofs.Common.{◌≡◌, ℕ, ◌+◌, ◌-◌, ◌<◌, Bool, true, false, cond, ◌&&◌, ◌==◌, List, [], ◌∷◌, length, filter, count_by, get_or, slice_get, nat_lt, nat_le, Some, IsTrue, refl, sym, subst, arith, eqb-true}
use Rattle.std.specs.List.{AllByRecursion as Each}
use Rattle.std.proofs.lemmas.List.Sums.{length-filter}
use Rattle.std.proofs.lemmas.Option.{slice_get-get_or}
use Rattle.guarded_update.specs.Fitting.{update_fits}
use Rattle.guarded_update.specs.Spelling.{request_string}
use Rattle.ring_model.specs.World.{world}
use Rattle.ring_model.proofs.History.{Each-at}
use Rattle.ring_model.proofs.Lists.{filter_there, at_in}
use Rattle.ring_world.specs.declared.event.Event.TheVariants.{Submit, Resubmit, Deliver, Forge}
use Rattle.ring_world.specs.Worlds.{next_request}
use Rattle.ring_world.proofs.Order.{all_in_order}
use Rattle.pond_world.specs.Coming.{EventsMayCome}

-- what passes a filter passes its test
each_passes : {X : Type 0} (t : X → Bool) (xs : List X) → Each (λ x. t x ≡ true) (filter t xs)
each_passes t [] = tt
each_passes t (x ∷ xs) =
    elim (t x) as (λ b. t x ≡ b → Each (λ x. t x ≡ true) (cond b (x ∷ filter t xs) (filter t xs))) [
      | true ↦ λ e. (e, each_passes t xs)
      | false ↦ λ e. each_passes t xs
    ] refl

-- the last of three tests holds where all hold
last_of : (a b c : Bool) → IsTrue (a && b && c) → IsTrue c
last_of true true c t = t
last_of true false c t = absurd (cc)
last_of false b c t = absurd (cc)

pub events_may_come : EventsMayCome
events_may_come h g events (Submit c label update) ring small legal may =
    let r = next_request g (world g events) c.0 label update in
    let owner : g.owner (request_string r) ≡ c.0 = ring.owners r may.2 in
    let number : g.number (request_string r) ≡ count_by (λ t. g.owner t == c.0) (world g events).submits + 1 = ring.numbers r may.2 in
    let fits : IsTrue (update_fits update) = last_of (nat_lt r.client.0 16) (nat_le 1 r.number) (update_fits update) may.2.fits in (
      (may.0, omega (arith, may.1, small.slots), fits),
      (
        may.1,
        subst (λ k. k < g.clients) (sym owner) may.0,
        subst (λ k. g.number (request_string r) ≡ count_by (λ t. g.owner t == k) (world g events).submits + 1) (sym owner) number,
      ),
    )
events_may_come h g events (Resubmit c n) ring small legal may =
    let own : List ℕ → Bool = λ r. g.owner r == c.0 in
    let mine : List (List ℕ) = filter own (world g events).submits in
    let size : length mine ≡ count_by own (world g events).submits = length-filter own (world g events).submits in
    let request : List ℕ = get_or mine (n - 1) [] in
    let here : slice_get mine (n - 1) ≡ Some request = slice_get-get_or mine (n - 1) [] (omega (arith, size, may.1, may.2)) in
    let number : g.number request ≡ n - 1 + 1 = all_in_order g events legal c.0 (n - 1) request here in (
      (may.0, may.1, may.2),
      (
        request,
        filter_there own (world g events).submits request (at_in mine (n - 1) request here),
        eqb-true (g.owner request) c.0 (Each-at (λ r. own r ≡ true) mine (n - 1) request (each_passes own (world g events).submits) here),
        omega (arith, number, may.1),
      ),
    )
events_may_come h g events (Deliver p q k) ring small legal may = (may, may)
events_may_come h g events (Forge i q bytes) ring small legal may = ((may.1, may.2), (may.0, may.1, may.2))

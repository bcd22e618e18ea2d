-- What is submitted as lines come.
use Rattle.std.proofs.Common.{◌≡◌, ℕ, zero, suc, ◌-◌, ◌==◌, Bool, false, List, [], ◌∷◌, ◌++◌, length, filter, count_by, get_or, slice_get, Option, Some, None, unwrap_or, refl, sym, ap, ◌∙◌, subst, arith}
use Rattle.std.specs.List.{AllByRecursion as Each}
use Rattle.std.proofs.lemmas.List.Sums.{length-filter}
use Rattle.std.proofs.lemmas.Option.{slice_get-get_or}
use Rattle.guarded_update.specs.declared.request.Request.{Request}
use Rattle.guarded_update.specs.Fitting.{IsRequest}
use Rattle.guarded_update.specs.Spelling.{request_string}
use Rattle.ring_model.specs.Messages.{Ring, Packet}
use Rattle.ring_model.specs.World as model
use Rattle.ring_model.specs.World.{World, Event, world, between, came}
use Rattle.ring_model.proofs.History.{Each-at}
use Rattle.ring_model.proofs.Lists.{filter_there, at_in}
use Rattle.message_model.specs.Reading.{IsRingOf}
use Rattle.fold_model.proofs.Joined.{ring_is_read}
use Rattle.ring_model.specs.Places.{Place}
use Rattle.ring_model.specs.Deliveries.{pending}
use Rattle.script_terms.specs.declared.line.Line.{Line}
use Rattle.script_terms.specs.declared.line.Line.TheVariants.{Submit, Deliver, Settle}
use Rattle.script_terms.specs.declared.script.Script.{Script}
use Rattle.script_laws.specs.Limits.{submits_in}
use Rattle.script_laws.proofs.Turns.{submits_are_requests as counts_are}
use Rattle.text_model.specs.Requests.{Numbered, next_request, submitted, with_line}
use Rattle.text_model.specs.Events.{events_of, is_declared_faulty, is_passed, most_messages, no_archives, ring_for, settled_by, with_events, world_of}
use Rattle.script_laws.specs.Events.{IsSpelled, SubmitsARequest, is_submit}
use Rattle.script_laws.specs.EventLaws.{SubmitsAreRequests, CountsJoin, AskedIsThere, OthersSubmitNone, OneRequestALine}
use Rattle.script_laws.proofs.Spelled.{Each-filter, count_spelled, each_spelled, spelled, spelled_more}

-- a message that comes submits nothing
came_same : (g : Ring) (w : World) (message : Option Packet) → (came g w message).submits ≡ w.submits
came_same g w None = refl
came_same g w (Some packet) = refl

-- nor does what is delivered one after the other
settled_same : (g : Ring) (passed : Place → Bool) (most : ℕ) (events : List Event) → (world g (settled_by g passed most events)).submits ≡ (world g events).submits
settled_same g passed zero events = refl
settled_same g passed (suc most) events =
    elim (pending g passed events) as (λ (found : Option Place).
    (world g (elim found [ None ↦ events | Some place ↦ settled_by g passed most (model.Deliver place.from place.to place.place ∷ events) ])).submits ≡ (world g events).submits) [
      | None ↦ refl
      | Some place ↦ settled_same g passed most (model.Deliver place.from place.to place.place ∷ events) ∙ came_same g (world g events) (slice_get (between place.from place.to (world g events).sent) place.place)
    ]

-- a line submits its request or nothing
line_submits : (h : List ℕ → List ℕ) (g : Ring) (earlier : List Numbered) (events : List Event) (line : Line) → (world g events).submits ≡ spelled (submitted h earlier)
    → (world g (with_events h g earlier events line)).submits ≡ spelled (with_line h (submitted h earlier) line)
line_submits h g earlier events (Submit client label clauses) e =
    let request : Request = next_request h (submitted h earlier) client label clauses in
    ap (λ strings. strings ++ request_string request ∷ []) e ∙ sym (spelled_more request (submitted h earlier))
line_submits h g earlier events (Deliver sender to place) e = came_same g (world g events) _ ∙ e
line_submits h g earlier events Settle e = settled_same g (is_passed earlier) most_messages events ∙ e
line_submits h g earlier events line e = e

pub submits_are_requests : SubmitsAreRequests
submits_are_requests h script [] = refl
submits_are_requests h script (line ∷ earlier) = line_submits h (ring_for h script) earlier (events_of h script earlier) line.1 (submits_are_requests h script earlier)

-- the ring of a script reads requests as the grammar does
pub ring_read : (h : List ℕ → List ℕ) (script : Script) → IsRingOf h (ring_for h script)
ring_read h script = ring_is_read script.setup.f script.setup.clients (is_declared_faulty script) h script.setup.block no_archives

pub counts_join : CountsJoin
counts_join h script lines all client =
    let g = ring_for h script in
    ap (count_by (λ text. g.owner text == client.0)) (submits_are_requests h script lines) ∙ count_spelled g.owner (ring_read h script).owners client (submitted h lines) all

pub asked_is_there : AskedIsThere
asked_is_there h script earlier client number sent all =
    let g : Ring = ring_for h script in
    let w : World = world_of h script earlier in
    let own : List ℕ → Bool = λ text. g.owner text == client.0 in
    let mine : List (List ℕ) = filter own w.submits in
    let size : length mine ≡ submits_in earlier client = length-filter own w.submits ∙ counts_join h script earlier all client ∙ counts_are h earlier client in
    let string : List ℕ = get_or mine (number - 1) [] in
    let here : slice_get mine (number - 1) ≡ Some string = slice_get-get_or mine (number - 1) [] (omega (arith, size, sent.1, sent.2)) in
    let spelt : Each IsSpelled w.submits = subst (Each IsSpelled) (sym (submits_are_requests h script earlier)) (each_spelled (submitted h earlier) all) in (
      string,
      record {
        at = here;
        asked = ap (λ (found : Option (List ℕ)). unwrap_or found []) here;
        among = filter_there own w.submits string (at_in mine (number - 1) string here);
        spelled = Each-at IsSpelled mine (number - 1) string (Each-filter IsSpelled own w.submits spelt) here;
      },
    )

line_others : (h : List ℕ → List ℕ) (requests : List Request) (line : Line) → is_submit line ≡ false → with_line h requests line ≡ requests
line_others h requests (Submit client label clauses) quiet = absurd (cc)
line_others h requests line quiet = refl

pub others_submit_none : OthersSubmitNone
others_submit_none h earlier line quiet = line_others h (submitted h earlier) line.1 quiet

line_requests : (h : List ℕ → List ℕ) (earlier : List Numbered) (line : Line) → SubmitsARequest h earlier line → Each IsRequest (submitted h earlier) → Each IsRequest (with_line h (submitted h earlier) line)
line_requests h earlier (Submit client label clauses) is all = (is, all)
line_requests h earlier line is all = all

pub one_request_a_line : OneRequestALine
one_request_a_line h earlier line is all = line_requests h earlier line.1 is all

-- What more lines add to the events, to the requests, and to what the ring was asked for.
use Rattle.std.proofs.Common.{◌≡◌, ℕ, List, [], ◌∷◌, ◌++◌, ◌-◌, slice_get, Contains, ⊎_elim, refl, sym, ap, ◌∙◌, subst, arith, append_assoc}
use Rattle.std.proofs.lemmas.List.Elements.{Contains-append_cases}
use Rattle.guarded_update.specs.declared.request.Request.{Request}
use Rattle.guarded_update.specs.Spelling.{request_string}
use Rattle.message_model.specs.Meaning.{who}
use Rattle.ring_model.specs.Messages.{Ring}
use Rattle.ring_model.specs.World.{Event, between, world}
use Rattle.ring_model.proofs.Lists.{there_first, there_later, there_cases, there_none}
use Rattle.ring_world.proofs.Order.{came_submits}
use Rattle.script_terms.specs.declared.line.Line.{Line}
use Rattle.script_terms.specs.declared.line.Line.TheVariants.{Submit, Resubmit, Deliver, Settle, ForgeOrder, ForgePrepare, ForgeCommit, ForgeHeart, ForgeRaw}
use Rattle.script_terms.specs.declared.script.Script.{Script}
use Rattle.text_model.specs.Requests.{Numbered, next_request, with_line, submitted}
use Rattle.text_model.specs.Events.{ring_for, is_passed, most_messages, with_events, events_of, world_of}
use Rattle.script_laws.proofs.Settled.{reached, settle_submits}
use Rattle.script_laws.specs.OneList.{EndsWith}

-- how a beginning began is how the whole began
pub ends_trans : {X : Type 0} (whole part less : List X) → EndsWith whole part → EndsWith part less → EndsWith whole less
ends_trans whole part less longer shorter = (longer.0 ++ shorter.0, longer.1 ∙ ap (λ xs. longer.0 ++ xs) shorter.1 ∙ sym (append_assoc longer.0 shorter.0 less))

-- ---- events

-- the events of a line stand in front of those before it
line_adds : (h : List ℕ → List ℕ) (g : Ring) (earlier : List Numbered) (events : List Event) (line : Line) → EndsWith (with_events h g earlier events line) events
line_adds h g earlier events (Submit client label clauses) = (_ ∷ [], refl)
line_adds h g earlier events (Resubmit client number) = (_ ∷ [], refl)
line_adds h g earlier events (Deliver sender to place) = (_ ∷ [], refl)
line_adds h g earlier events Settle = reached g (is_passed earlier) events 0 most_messages (omega arith)
line_adds h g earlier events (ForgeOrder member to seq client number) = (_ ∷ [], refl)
line_adds h g earlier events (ForgePrepare member to seq client number) = (_ ∷ [], refl)
line_adds h g earlier events (ForgeCommit member to seq client number) = (_ ∷ [], refl)
line_adds h g earlier events (ForgeHeart member to label version name) = (_ ∷ [], refl)
line_adds h g earlier events (ForgeRaw member to content) = (_ ∷ [], refl)
line_adds h g earlier events line = ([], refl)

-- so do the events of several lines
pub lines_add : (h : List ℕ → List ℕ) (script : Script) (later earlier : List Numbered) → EndsWith (events_of h script (later ++ earlier)) (events_of h script earlier)
lines_add h script [] earlier = ([], refl)
lines_add h script (line ∷ later) earlier =
    let events = events_of h script (later ++ earlier) in
    ends_trans (with_events h (ring_for h script) (later ++ earlier) events line.1) events (events_of h script earlier)
    (line_adds h (ring_for h script) (later ++ earlier) events line.1) (lines_add h script later earlier)

-- ---- requests

-- a line leaves what was submitted
line_submits : (h : List ℕ → List ℕ) (requests : List Request) (line : Line) → EndsWith (with_line h requests line) requests
line_submits h requests (Submit client label clauses) = (_ ∷ [], refl)
line_submits h requests line = ([], refl)

-- so do several lines
pub lines_submit : (h : List ℕ → List ℕ) (later earlier : List Numbered) → EndsWith (submitted h (later ++ earlier)) (submitted h earlier)
lines_submit h [] earlier = ([], refl)
lines_submit h (line ∷ later) earlier =
    let requests = submitted h (later ++ earlier) in
    ends_trans (with_line h requests line.1) requests (submitted h earlier) (line_submits h requests line.1) (lines_submit h later earlier)

-- ---- what the ring was asked for

-- one of the requests has this string
abbrev pub IsAsked : List Request → List ℕ → Type 0
IsAsked requests string = (request : Request) × Contains requests request × (request_string request ≡ string)

-- a line submits what the ring is asked for by it
asked_by : (h : List ℕ → List ℕ) (g : Ring) (earlier : List Numbered) (events : List Event) (line : Line) → ((string : List ℕ) → Contains (world g events).submits string → IsAsked (submitted h earlier) string)
    → (string : List ℕ) → Contains (world g (with_events h g earlier events line)).submits string → IsAsked (with_line h (submitted h earlier) line) string
asked_by h g earlier events (Submit client label clauses) before string there =
    let new = next_request h (submitted h earlier) client label clauses in
    ⊎_elim (λ old. let request = before string old in (request.0, there_later new (submitted h earlier) request.0 request.1, request.2))
    (λ last. ⊎_elim (λ same. (new, there_first new (submitted h earlier), same)) (λ none. absurd (there_none string none)) (there_cases (request_string new) [] string last))
    (Contains-append_cases (world g events).submits (request_string new ∷ []) string there)
asked_by h g earlier events (Deliver sender to place) before string there =
    before string (subst (λ texts. Contains texts string) (came_submits g (world g events) (slice_get (between (who sender) (who to) (world g events).sent) (place - 1))) there)
asked_by h g earlier events Settle before string there = before string (subst (λ texts. Contains texts string) (settle_submits g (is_passed earlier) most_messages events) there)
asked_by h g earlier events line before string there = before string there

-- lines submit whatever the ring was asked for
pub lines_ask : (h : List ℕ → List ℕ) (script : Script) (lines : List Numbered) (string : List ℕ) → Contains (world_of h script lines).submits string → IsAsked (submitted h lines) string
lines_ask h script [] string there = absurd (there_none string there)
lines_ask h script (line ∷ earlier) string there = asked_by h (ring_for h script) earlier (events_of h script earlier) line.1 (lines_ask h script earlier) string there

-- A client's next request, and the event that it is.
use Rattle.std.proofs.Common.{◌≡◌, ℕ, ◌+◌, ◌<◌, Bool, true, ◌&&◌, ◌==◌, List, [], ◌∷◌, map, count_by, nat_lt, nat_le, refl, sym, ◌∙◌, ap, subst, arith}
use Rattle.std.proofs.lemmas.Bool.{le-leb, lt-ltb}
use Rattle.std.proofs.lemmas.List.Sums.{count_by-le-length}
use Rattle.block_names.specs.Held.{Held}
use Rattle.block_names.specs.Growth.{Holds, keep_all}
use Rattle.block_names.proofs.Grown.{now_held}
use Rattle.std.specs.FinMap as finite
use Rattle.guarded_update.specs.Fitting.{IsRequest, request_fits, update_fits}
use Rattle.guarded_update.specs.Spelling.{request_string}
use Rattle.guarded_update.specs.declared.request.Request.{Request}
use Rattle.guarded_update.specs.declared.update.Clause.{Clause}
use Rattle.pond_base.specs.declared.numbers.ClientId.{ClientId}
use Rattle.pond_node.specs.Standing.{NodeStands}
use Rattle.pond_node.specs.declared.node.Node.{Node}
use Rattle.pond_world.specs.Coming.{EventsMayCome}
use Rattle.pond_world.specs.Sites.{SiteView}
use Rattle.ring_model.specs.Messages.{Ring}
use Rattle.ring_model.specs.World as model
use Rattle.ring_model.specs.World.{world, MayHappen}
use Rattle.ring_world.specs.Conditions.{MayStep}
use Rattle.ring_world.specs.Worlds.{WorldStands, event_of, strings_of}
use Rattle.ring_world.specs.declared.event.Event.{Event}
use Rattle.ring_world.specs.declared.event.Event.TheVariants as event
use Rattle.ring_mail.specs.Skips.{Skips}
use Rattle.ring_world.specs.declared.state.World.{World}
use Rattle.script_laws.specs.Events.{IsEventOf}
use Rattle.script_laws.specs.EventLaws.{CountsJoin, EventsComeOfLines, RingIsSound}
use Rattle.script_laws.specs.Limits.{update_of}
use Rattle.script_laws.specs.Turns.{LinesFitInTurn, FewAreSubmitted}
use Rattle.script_terms.specs.declared.line.Line.{Line}
use Rattle.script_terms.specs.declared.line.Line.TheVariants.{Submit}
use Rattle.script_terms.specs.declared.line.LineClause.{LineClause}
use Rattle.script_terms.specs.declared.script.Script.{Script}
use Rattle.text_model.specs.Events.{ring_for, world_of, events_of}
use Rattle.text_model.specs.Requests.{clause_of, count_of, next_request, submitted}
use Rattle.tree_format.specs.Strings.{label_string}
use Rattle.script_run.specs.States.{IsTurn, lines_before}
use Rattle.script_run.proofs.Turns.{turn_fits}

-- how many requests a client has submitted, as a world that stands for the lines counts them
pub counted : LinesFitInTurn → CountsJoin → (h : List ℕ → List ℕ) (script : Script) (at : ℕ) (client : ClientId) (label : List ℕ) (clauses : List LineClause) (site : SiteView) (skips : Skips) (w : World Node) (count : ℕ)
    → IsTurn h script at (Submit client label clauses) site skips → w ≡ site.world
    → ((g : Ring) (events : List model.Event) → WorldStands NodeStands g w events → client.0 < g.clients → count ≡ count_by (λ r. g.owner r == client.0) (world g events).submits)
    → count ≡ count_of client (submitted h (lines_before script at))
counted fit joins h script at client label clauses site skips w count turn same tells =
    let earlier = lines_before script at in
    let stands : WorldStands NodeStands (ring_for h script) w (events_of h script earlier) =
    subst (λ v. WorldStands NodeStands (ring_for h script) v (events_of h script earlier)) (sym same) turn.stands.stands in
    tells (ring_for h script) (events_of h script earlier) stands (turn_fits fit h script at (Submit client label clauses) site skips turn).meets.0 ∙ joins h script earlier turn.stands.requests client

-- it has a number left
pub few_counted : LinesFitInTurn → FewAreSubmitted → (h : List ℕ → List ℕ) (script : Script) (at : ℕ) (client : ClientId) (label : List ℕ) (clauses : List LineClause) (site : SiteView) (skips : Skips)
    → IsTurn h script at (Submit client label clauses) site skips → count_of client (submitted h (lines_before script at)) < 1024
few_counted fit few h script at client label clauses site skips turn =
    omega (
      arith,
      count_by-le-length (λ (r : Request). r.client.0 == client.0) (submitted h (lines_before script at)),
      few h (lines_before script at),
      (turn_fits fit h script at (Submit client label clauses) site skips turn).light.1,
    )

all_three : (a b c : Bool) → a ≡ true → b ≡ true → c ≡ true → (a && b && c) ≡ true
all_three a b c x y z = rw (x, y, z) refl

-- its next request is within the limits
pub next_fits : LinesFitInTurn → (h : List ℕ → List ℕ) (script : Script) (at : ℕ) (client : ClientId) (label : List ℕ) (clauses : List LineClause) (site : SiteView) (skips : Skips)
    → IsTurn h script at (Submit client label clauses) site skips → request_fits (next_request h (submitted h (lines_before script at)) client label clauses) ≡ true
next_fits fit h script at client label clauses site skips turn =
    let fits = turn_fits fit h script at (Submit client label clauses) site skips turn in
    let count : ℕ = count_of client (submitted h (lines_before script at)) in
    all_three (nat_lt client.0 16) (nat_le 1 (count + 1)) (update_fits (update_of h clauses)) (lt-ltb client.0 16 (omega (arith, fits.meets.0, turn.within.setup.few_clients))) (le-leb 1 (count + 1) (omega arith)) (fits.light.0.0 h)

-- the request of some fields
abbrev pub record_of : ClientId → ℕ → List ℕ → List Clause → Request
record_of client count label made = record { client = client; number = count + 1; label = label; update = record { clauses = made } }

pub next_is : (h : List ℕ → List ℕ) (sent : List Request) (client : ClientId) (count : ℕ) (label : List ℕ) (clauses : List LineClause) (made : List Clause) → count ≡ count_of client sent → made ≡ map (clause_of h) clauses
    → record_of client count label made ≡ next_request h sent client label clauses
next_is h sent client count label clauses made counts is = ap (λ n. record_of client n label made) counts ∙ ap (λ cs. record_of client (count_of client sent) label cs) is

-- the event of a line may come
event_may : LinesFitInTurn → RingIsSound → EventsComeOfLines → EventsMayCome → (h : List ℕ → List ℕ) (script : Script) (at : ℕ) (line : Line) (e : Event) (site : SiteView) (skips : Skips) → IsTurn h script at line site skips
    → IsEventOf h script (lines_before script at) line e
    → MayStep (ring_for h script) (world_of h script (lines_before script at)) e × MayHappen (ring_for h script) (world_of h script (lines_before script at)) (event_of (ring_for h script) (world_of h script (lines_before script at)) e)
event_may fit sound come may h script at line e site skips turn is =
    let earlier = lines_before script at in
    let ring = sound h script turn.within.setup in
    may h (ring_for h script) (events_of h script earlier) e ring.0 ring.2 turn.stands.stands.legal
    (come h script earlier (turn.number, line) e turn.within.setup (turn_fits fit h script at line site skips turn) turn.stands.requests is).0

-- the strings that the world names for it
asked_next : CountsJoin → (h : List ℕ → List ℕ) (script : Script) (at : ℕ) (client : ClientId) (label : List ℕ) (clauses : List LineClause) (made : List Clause) (site : SiteView) (skips : Skips) → IsTurn h script at (Submit client label clauses) site skips
    → made ≡ map (clause_of h) clauses
    → strings_of (ring_for h script) (world_of h script (lines_before script at)) (event.Submit client label (record { clauses = made }))
    ≡ label_string label ∷ request_string (next_request h (submitted h (lines_before script at)) client label clauses) ∷ []
asked_next joins h script at client label clauses made site skips turn is =
    let sent = submitted h (lines_before script at) in
    ap (λ (count : ℕ). label_string label ∷ request_string (record_of client count label made) ∷ []) (joins h script (lines_before script at) turn.stands.requests client)
    ∙ ap (λ (cs : List Clause). label_string label ∷ request_string (record_of client (count_of client sent) label cs) ∷ []) is

-- what a client submits, with clauses that were made, is a request, and its event is that of the line and may come
pub record Submits (h : List ℕ → List ℕ) (script : Script) (at : ℕ) (client : ClientId) (label : List ℕ) (clauses : List LineClause) (made : List Clause) : Type 0 where
  pub request : IsRequest (next_request h (submitted h (lines_before script at)) client label clauses)
  pub is_event : IsEventOf h script (lines_before script at) (Submit client label clauses) (event.Submit client label (record { clauses = made }))
  pub may_step : MayStep (ring_for h script) (world_of h script (lines_before script at)) (event.Submit client label (record { clauses = made }))
  pub may_happen : MayHappen (ring_for h script) (world_of h script (lines_before script at))
      (event_of (ring_for h script) (world_of h script (lines_before script at)) (event.Submit client label (record { clauses = made })))
  pub names : strings_of (ring_for h script) (world_of h script (lines_before script at)) (event.Submit client label (record { clauses = made }))
      ≡ label_string label ∷ request_string (next_request h (submitted h (lines_before script at)) client label clauses) ∷ []

pub submits : LinesFitInTurn → CountsJoin → RingIsSound → EventsComeOfLines → EventsMayCome → (h : List ℕ → List ℕ) (script : Script) (at : ℕ) (client : ClientId) (count : ℕ) (label : List ℕ) (clauses : List LineClause) (made : List Clause)
    (site : SiteView) (skips : Skips) → IsTurn h script at (Submit client label clauses) site skips
    → count ≡ count_of client (submitted h (lines_before script at)) → made ≡ map (clause_of h) clauses → IsRequest (record_of client count label made) → Submits h script at client label clauses made
submits fit joins sound come may h script at client count label clauses made site skips turn counts is written =
    let earlier = lines_before script at in
    let line : Line = Submit client label clauses in
    let e : Event = event.Submit client label (record { clauses = made }) in
    let request : IsRequest (next_request h (submitted h earlier) client label clauses) = subst IsRequest (next_is h (submitted h earlier) client count label clauses made counts is) written in
    let is_event : IsEventOf h script earlier (Submit client label clauses) (event.Submit client label (record { clauses = made })) = (ap (λ (cs : List Clause). event.Submit client label (record { clauses = cs })) is, request) in
    let comes = event_may fit sound come may h script at line e site skips turn is_event in
    record { request = request; is_event = is_event; may_step = comes.0; may_happen = comes.1; names = asked_next joins h script at client label clauses made site skips turn is }

-- the world of a site that is this one stands for the lines
pub stands_same : (h : List ℕ → List ℕ) (script : Script) (at : ℕ) (line : Line) (site : SiteView) (skips : Skips) (w : World Node) → IsTurn h script at line site skips → w ≡ site.world
    → WorldStands NodeStands (ring_for h script) w (events_of h script (lines_before script at))
stands_same h script at line site skips w turn same = subst (λ v. WorldStands NodeStands (ring_for h script) v (events_of h script (lines_before script at))) (sym same) turn.stands.stands

-- the events with that of the line
pub stands_next : LinesFitInTurn → EventsComeOfLines → (h : List ℕ → List ℕ) (script : Script) (at : ℕ) (line : Line) (e : Event) (site : SiteView) (skips : Skips) (now : World Node) → (turn : IsTurn h script at line site skips)
    → IsEventOf h script (lines_before script at) line e
    → WorldStands NodeStands (ring_for h script) now (event_of (ring_for h script) (world_of h script (lines_before script at)) e ∷ events_of h script (lines_before script at))
    → WorldStands NodeStands (ring_for h script) now (events_of h script ((turn.number, line) ∷ lines_before script at))
stands_next fit come h script at line e site skips now turn is stands =
    let earlier = lines_before script at in
    let events = (come h script earlier (turn.number, line) e turn.within.setup (turn_fits fit h script at line site skips turn) turn.stands.requests is).1 in
    subst (λ es. WorldStands NodeStands (ring_for h script) now es) (sym events) stands

-- a book that has kept two strings holds the second
pub second_held : (h : List ℕ → List ℕ) (first second : List ℕ) (strings : List (List ℕ)) (mid now : Held) → strings ≡ first ∷ second ∷ [] → now ≡ keep_all h strings mid → Holds h now second
second_held h first second strings mid now are kept =
    subst (λ book. Holds h book second) (sym (kept ∙ ap (λ ss. keep_all h ss mid) are)) (now_held h (finite.insert mid (h first) first) second)

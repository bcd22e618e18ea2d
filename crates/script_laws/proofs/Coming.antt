-- The events of lines, and the ring in which they come.
use Rattle.std.proofs.Common.{◌≡◌, ℕ, ◌+◌, ◌*◌, ◌<◌, List, ◌∷◌, length, reverse, refl, sym, ap, subst, arith}
use Rattle.std.specs.List.{AllByRecursion as Each}
use Rattle.std.proofs.lemmas.List.{length-map, length-reverse}
use Rattle.pond_base.specs.declared.numbers.ClientId.{ClientId}
use Rattle.pond_base.specs.declared.numbers.MemberId.{MemberId}
use Rattle.pond_base.specs.declared.numbers.Party.{Party}
use Rattle.pond_base.specs.declared.numbers.Party.TheVariants.{Member, Client}
use Rattle.guarded_update.specs.declared.request.Request.{Request}
use Rattle.guarded_update.specs.Fitting.{IsRequest}
use Rattle.guarded_update.specs.Spelling.{request_string}
use Rattle.ring_model.specs.Messages.{Message}
use Rattle.ring_model.specs.World.{World, IsParty}
use Rattle.ring_model.specs.World as model
use Rattle.message_model.specs.Meaning.{meaning, who}
use Rattle.ring_world.specs.declared.event.Event.{Event}
use Rattle.ring_world.specs.Worlds.{event_of}
use Rattle.ring_world.proofs.Stepping.{place_less}
use Rattle.ring_world.specs.Worlds as asking
use Rattle.pond_world.specs.Coming.{MayCome}
use Rattle.pond_world.proofs.Faulty.{few_among}
use Rattle.script_terms.specs.declared.line.Line.{Line}
use Rattle.script_terms.specs.declared.line.Line.TheVariants.{Submit, Resubmit, Deliver, ForgeOrder, ForgePrepare, ForgeCommit, ForgeHeart, ForgeRaw}
use Rattle.script_terms.specs.declared.line.LineClause.{LineClause}
use Rattle.script_terms.specs.declared.script.Script.{Script}
use Rattle.script_laws.specs.Limits.{IsFaulty, LineFits, SetupFits, requests_in, update_of}
use Rattle.script_laws.specs.Limits as limits
use Rattle.script_laws.proofs.Turns.{faulty_are_members, few_are_submitted, submits_are_requests as counts_are}
use Rattle.text_model.specs.Requests.{Numbered, next_request, submitted}
use Rattle.text_model.specs.Events.{events_of, ring_for, with_events, world_of}
use Rattle.script_laws.specs.Events.{Forges, IsEventOf}
use Rattle.script_laws.specs.EventLaws.{SetupsJoin, RingsJoin, RingIsSound, EventsComeOfLines}
use Rattle.script_laws.proofs.Submits.{counts_join, ring_read, submits_are_requests}

-- ---- the ring of a script

pub setups_join : SetupsJoin
setups_join setup fits = record {
  few = fits.small;
  some_client = fits.some_client;
  few_clients = fits.few_clients;
  least = fits.least;
  most = fits.most;
  few_faulty = fits.few_faulty;
}

pub rings_join : RingsJoin
rings_join h script = refl

pub ring_is_sound : RingIsSound
ring_is_sound h script fits = (
  ring_read h script,
  omega (arith, few_among script.setup.faulty (3 * script.setup.f + 1), fits.few_faulty),
  record { few = fits.small; few_clients = fits.few_clients; slots = refl },
)

-- ---- the events of lines

-- an event may come, and these are the events with it
abbrev Comes : (List ℕ → List ℕ) → Script → List Numbered → List model.Event → Event → Type 0
Comes h script earlier now e = MayCome (ring_for h script) (world_of h script earlier) e × (now ≡ event_of (ring_for h script) (world_of h script earlier) e ∷ events_of h script earlier)

party_in : (h : List ℕ → List ℕ) (script : Script) (party : Party) → limits.IsParty script.setup party → IsParty (ring_for h script) (who party)
party_in h script (Member member) is = omega (arith, is)
party_in h script (Client client) is = is

-- the next request is the one that the model of scripts has
same_next : (h : List ℕ → List ℕ) (script : Script) (earlier : List Numbered) (client : ClientId) (label : List ℕ) (clauses : List LineClause) → Each IsRequest (submitted h earlier)
    → asking.next_request (ring_for h script) (world_of h script earlier) client.0 label (update_of h clauses) ≡ next_request h (submitted h earlier) client label clauses
same_next h script earlier client label clauses all =
    ap (λ (count : ℕ). record { client = client; number = count + 1; label = label; update = update_of h clauses }) (counts_join h script earlier all client)

few_submits : (h : List ℕ → List ℕ) (script : Script) (earlier : List Numbered) → requests_in earlier < 1024 → length (world_of h script earlier).submits < 65536
few_submits h script earlier few =
    omega (arith, few, few_are_submitted h earlier, ap length (submits_are_requests h script earlier), length-map (reverse (submitted h earlier)) request_string, length-reverse (submitted h earlier))

-- a forgery by a declared member may come
forged_comes : (h : List ℕ → List ℕ) (script : Script) (earlier : List Numbered) (member : MemberId) (to : Party) (message : Message) (e : Event) → SetupFits script.setup → IsFaulty script.setup member
    → limits.IsParty script.setup to → Forges member to message e → Comes h script earlier (model.Forge member.0 (who to) message ∷ events_of h script earlier) e
forged_comes h script earlier member to message e fits faulty party forges =
    subst (Comes h script earlier (model.Forge member.0 (who to) message ∷ events_of h script earlier)) (sym forges.1) (
      (faulty, omega (arith, faulty_are_members script.setup member fits faulty), party_in h script to party),
      ap (λ (m : Message). model.Forge member.0 (who to) m ∷ events_of h script earlier) (sym forges.2),
    )

line_comes : (h : List ℕ → List ℕ) (script : Script) (earlier : List Numbered) (line : Line) (e : Event) → SetupFits script.setup → LineFits script.setup earlier line → Each IsRequest (submitted h earlier)
    → IsEventOf h script earlier line e → Comes h script earlier (with_events h (ring_for h script) earlier (events_of h script earlier) line) e
line_comes h script earlier (Submit client label clauses) e setup fits all is =
    let same = same_next h script earlier client label clauses all in
    subst (Comes h script earlier (with_events h (ring_for h script) earlier (events_of h script earlier) (Submit client label clauses))) (sym is.0) (
      (fits.meets.0, few_submits h script earlier fits.light.1, subst IsRequest (sym same) is.1),
      ap (λ (request : Request). model.Submit (request_string request) ∷ events_of h script earlier) (sym same),
    )
line_comes h script earlier (Resubmit client number) e setup fits all is =
    let sent = fits.meets.1.0 in
    subst (Comes h script earlier (with_events h (ring_for h script) earlier (events_of h script earlier) (Resubmit client number))) (sym is)
    ((fits.meets.0, sent.0, omega (arith, sent.1, counts_join h script earlier all client, counts_are h earlier client)), refl)
line_comes h script earlier (Deliver sender to place) e setup fits all is =
    let from = fits.meets.1.1.0 in
    subst (Comes h script earlier (with_events h (ring_for h script) earlier (events_of h script earlier) (Deliver sender to place))) (sym is) (
      (party_in h script sender fits.meets.0, party_in h script to fits.meets.1.0),
      ap (λ k. model.Deliver (who sender) (who to) k ∷ events_of h script earlier) (sym (place_less (world_of h script earlier).sent place (λ none. absurd (omega (arith, none, from))))),
    )
line_comes h script earlier (ForgeOrder member to seq client number) e setup fits all is = forged_comes h script earlier member to _ e setup fits.meets.0 fits.meets.1.0 is
line_comes h script earlier (ForgePrepare member to seq client number) e setup fits all is = forged_comes h script earlier member to _ e setup fits.meets.0 fits.meets.1.0 is
line_comes h script earlier (ForgeCommit member to seq client number) e setup fits all is = forged_comes h script earlier member to _ e setup fits.meets.0 fits.meets.1.0 is
line_comes h script earlier (ForgeHeart member to label version name) e setup fits all is = forged_comes h script earlier member to _ e setup fits.meets.0 fits.meets.1.0 is
line_comes h script earlier (ForgeRaw member to content) e setup fits all is = forged_comes h script earlier member to (meaning content) e setup fits.meets.0 fits.meets.1.0 (content, is, refl)
line_comes h script earlier line e setup fits all is = absurd is

pub events_come_of_lines : EventsComeOfLines
events_come_of_lines h script earlier line e setup fits all is = line_comes h script earlier line.1 e setup fits all is

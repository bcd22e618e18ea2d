-- Deliveries, one or all that are pending.
use Rattle.std.proofs.Common.{◌≡◌, ◌≤◌, ℕ, ◌+◌, List, ◌∷◌, Contains, reverse, take, drop, refl, sym, ◌∙◌, subst, arith, take-append-drop}
use Rattle.std.specs.List.{AllByRecursion}
use Rattle.std.proofs.lemmas.List.Elements.{Contains-append_left}
use Rattle.block_names.specs.Growth.{Grew}
use Rattle.block_names.specs.declared.fault.NameFault.{NameFault}
use Rattle.pond_base.specs.declared.numbers.Party.{Party}
use Rattle.pond_node.specs.Standing.{NodeStands}
use Rattle.pond_world.specs.Sites.{SiteView, IsClashAfter}
use Rattle.ring_model.specs.World.{IsLegal}
use Rattle.ring_model.specs.Laws.{NoClash}
use Rattle.ring_model.proofs.Lists.{Each-from_there}
use Rattle.ring_world.specs.declared.event.Event.TheVariants as wevent
use Rattle.ring_mail.specs.Skips.{Skips, is_skipped}
use Rattle.ring_model.specs.Deliveries.{settled}
use Rattle.message_model.specs.Naming.{named_along, IsNamedIn}
use Rattle.ring_world.specs.Settles.{Settles}
use Rattle.ring_world.specs.Worlds.{WorldStands, strings_of}
use Rattle.script_laws.specs.EventLaws.{SubmitsAreRequests}
use Rattle.script_laws.specs.NamingLaws.{AreOfLines, DeliveriesAreNamed, SettlesAreNamed, SkipsJoin, SettledJoins}
use Rattle.script_laws.proofs.Elements.{in_reverse}
use Rattle.script_requests.specs.Holding.{HoldsAll, IsClashOf}
use Rattle.script_terms.specs.declared.line.Line.{Line}
use Rattle.script_terms.specs.declared.line.Line.TheVariants.{Deliver, Settle}
use Rattle.script_terms.specs.declared.script.Script.{Script}
use Rattle.text_model.specs.Events.{ring_for, events_of, world_of, is_passed, most_messages}
use Rattle.text_model.specs.Named.{named, line_strings, committed_strings}
use Rattle.text_model.specs.Requests.{Numbered}
use Rattle.script_run.specs.States.{StandsNext, IsTurn, lines_before}
use Rattle.script_run.proofs.Coming.{Comes}
use Rattle.script_run.proofs.Turns.{next_from, lines_more}
use Rattle.script_run.proofs.Widening.{holds_wider, clash_among}

-- each line that was run stands in the script
pub lines_among : (lines : List Numbered) (at : ℕ) → AllByRecursion (Contains lines) (reverse (take at lines))
lines_among lines at =
    Each-from_there (Contains lines) (reverse (take at lines))
    (λ line c. subst (λ ls. Contains ls line) (take-append-drop at lines) (Contains-append_left (take at lines) (drop at lines) line (in_reverse (take at lines) line c)))

of_lines : SubmitsAreRequests → (h : List ℕ → List ℕ) (script : Script) (at : ℕ) (line : Line) (site : SiteView) (skips : Skips) → IsTurn h script at line site skips → AreOfLines h script (lines_before script at)
of_lines submits h script at line site skips turn = record {
  submits = submits h script (lines_before script at);
  requests = turn.stands.requests;
  among = lines_among script.lines at;
}

-- what is named at a delivery is named up to its line
pub delivery_named : SubmitsAreRequests → DeliveriesAreNamed → (h : List ℕ → List ℕ) (script : Script) (at : ℕ) (sender to : Party) (place : ℕ) (site : SiteView) (skips : Skips) → (turn : IsTurn h script at (Deliver sender to place) site skips)
    → Comes h script at turn.number (Deliver sender to place) (wevent.Deliver sender to place) → NoClash (ring_for h script) (world_of h script (lines_before script at)).submits
    → (s : List ℕ) → Contains (strings_of (ring_for h script) (world_of h script (lines_before script at)) (wevent.Deliver sender to place)) s
    → Contains (named h script ((turn.number, Deliver sender to place) ∷ lines_before script at)) s
delivery_named submits law h script at sender to place site skips turn comes apart s c =
    let earlier = lines_before script at in
    let line : Numbered = (turn.number, Deliver sender to place) in
    let g = ring_for h script in
    let legal : IsLegal g (events_of h script (line ∷ earlier)) = subst (IsLegal g) (sym comes.events) (comes.may_happen, turn.stands.stands.legal) in
    let same : (world_of h script (line ∷ earlier)).submits ≡ (world_of h script earlier).submits = submits h script (line ∷ earlier) ∙ sym (submits h script earlier) in
    law h script earlier line sender to place s refl turn.within.setup (of_lines submits h script at (Deliver sender to place) site skips turn) legal (subst (NoClash g) (sym same) apart) c

-- what a settle passes over, the script does
passed_over : SkipsJoin → (h : List ℕ → List ℕ) (script : Script) (at : ℕ) (line : Line) (site : SiteView) (skips : Skips) → IsTurn h script at line site skips → is_skipped skips ≡ is_passed (lines_before script at)
passed_over join h script at line site skips turn = join skips (lines_before script at) turn.stands.muted_are turn.stands.lost_are

-- what is named at a settle is named up to its line
pub settle_named : SubmitsAreRequests → SkipsJoin → SettlesAreNamed → (h : List ℕ → List ℕ) (script : Script) (at : ℕ) (site : SiteView) (skips : Skips) → (turn : IsTurn h script at Settle site skips)
    → NoClash (ring_for h script) (world_of h script (lines_before script at)).submits
    → (s : List ℕ) → IsNamedIn (ring_for h script) (is_skipped skips) (events_of h script (lines_before script at)) s → Contains (named h script ((turn.number, Settle) ∷ lines_before script at)) s
settle_named submits join law h script at site skips turn apart s is =
    let earlier = lines_before script at in
    let g = ring_for h script in
    let events = events_of h script earlier in
    law h script earlier (turn.number, Settle) is.0 s refl (omega (arith, is.1)) turn.within.setup (of_lines submits h script at Settle site skips turn) turn.stands.stands.legal apart
    (subst (λ passed. Contains (named_along g events (settled g passed events is.0)) s) (passed_over join h script at Settle site skips turn) is.2)

-- the world after a settle stands for the events up to its line
pub settle_stands : SkipsJoin → SettledJoins → (h : List ℕ → List ℕ) (script : Script) (at : ℕ) (site : SiteView) (skips : Skips) (now : SiteView) (n : ℕ) → (turn : IsTurn h script at Settle site skips) → n ≤ most_messages
    → Settles NodeStands (ring_for h script) (is_skipped skips) (events_of h script (lines_before script at)) now.world n
    → WorldStands NodeStands (ring_for h script) now.world (events_of h script ((turn.number, Settle) ∷ lines_before script at))
settle_stands join law h script at site skips now n turn few settles =
    let earlier = lines_before script at in
    let g = ring_for h script in
    let events = events_of h script earlier in
    let done : Settles NodeStands g (is_passed earlier) events now.world n =
    subst (λ passed. Settles NodeStands g passed events now.world n) (passed_over join h script at Settle site skips turn) settles in
    subst (WorldStands NodeStands g now.world) (sym (law g (is_passed earlier) events n few done.all)) done.is

-- the message at a place was delivered
pub delivered_next : (h : List ℕ → List ℕ) (script : Script) (at : ℕ) (sender to : Party) (place : ℕ) (site now : SiteView) (skips : Skips) (Of : List ℕ → Type 0) → (turn : IsTurn h script at (Deliver sender to place) site skips)
    → WorldStands NodeStands (ring_for h script) now.world (events_of h script ((turn.number, Deliver sender to place) ∷ lines_before script at)) → Grew h site.held Of now.held
    → ((s : List ℕ) → Of s → Contains (named h script ((turn.number, Deliver sender to place) ∷ lines_before script at)) s)
    → HoldsAll h now.held (committed_strings h script ((turn.number, Deliver sender to place) ∷ lines_before script at)) → StandsNext h script at now skips
delivered_next h script at sender to place site now skips Of turn stands grew among all =
    let earlier = lines_before script at in
    next_from h script at turn.number (Deliver sender to place) now skips turn.here
    (holds_wider h site.held now.held (named h script earlier) (committed_strings h script ((turn.number, Deliver sender to place) ∷ earlier)) Of turn.stands.holds grew among all)
    stands turn.stands.muted_are turn.stands.lost_are turn.stands.requests

-- all that was pending was delivered
pub settled_next : (h : List ℕ → List ℕ) (script : Script) (at : ℕ) (site now : SiteView) (skips : Skips) (Of : List ℕ → Type 0) → (turn : IsTurn h script at Settle site skips)
    → WorldStands NodeStands (ring_for h script) now.world (events_of h script ((turn.number, Settle) ∷ lines_before script at)) → Grew h site.held Of now.held
    → ((s : List ℕ) → Of s → Contains (named h script ((turn.number, Settle) ∷ lines_before script at)) s)
    → HoldsAll h now.held (committed_strings h script ((turn.number, Settle) ∷ lines_before script at)) → StandsNext h script at now skips
settled_next h script at site now skips Of turn stands grew among all =
    let earlier = lines_before script at in
    next_from h script at turn.number Settle now skips turn.here
    (holds_wider h site.held now.held (named h script earlier) (committed_strings h script ((turn.number, Settle) ∷ earlier)) Of turn.stands.holds grew among all)
    stands turn.stands.muted_are turn.stands.lost_are turn.stands.requests

-- a clash at a line is one of the strings that are named up to it
pub clash_here : (h : List ℕ → List ℕ) (script : Script) (at : ℕ) (line : Line) (site : SiteView) (skips : Skips) (Of : List ℕ → Type 0) (fault : NameFault) → (turn : IsTurn h script at line site skips)
    → ((s : List ℕ) → Of s → Contains (named h script ((turn.number, line) ∷ lines_before script at)) s) → IsClashAfter h site.held Of fault → IsClashOf h (named h script (lines_before script (at + 1))) fault
clash_here h script at line site skips Of fault turn among after =
    let earlier = lines_before script at in
    let whole = named h script ((turn.number, line) ∷ earlier) in
    subst (λ lines. IsClashOf h (named h script lines) fault) (sym (lines_more script at (turn.number, line) turn.here))
    (clash_among h site.held (named h script earlier) whole Of fault turn.stands.holds (λ s c. Contains-append_left (named h script earlier) (line_strings h script earlier (turn.number, line)) s c) among after)

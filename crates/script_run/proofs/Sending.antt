-- Events that send messages and name nothing.
use Rattle.std.proofs.Common.{◌≡◌, ℕ, ◌+◌, List, [], ◌∷◌, ◌++◌, Contains, slice_get, Some, refl, subst}
use Rattle.block_names.specs.Growth.{Grew}
use Rattle.block_names.specs.declared.fault.NameFault.{NameFault}
use Rattle.pond_node.specs.Standing.{NodeStands}
use Rattle.pond_world.specs.Sites.{SiteView, IsClashAfter}
use Rattle.ring_world.specs.declared.event.Event.{Event}
use Rattle.ring_world.specs.declared.event.Event.TheVariants as wevent
use Rattle.ring_mail.specs.Skips.{Skips}
use Rattle.ring_world.specs.Worlds.{WorldStands, strings_of}
use Rattle.script_laws.specs.Events.{IsEventOf}
use Rattle.script_requests.specs.Holding.{HoldsJust, IsClashOf}
use Rattle.script_requests.proofs.Holds.{all_none, contains_none, holds_more}
use Rattle.script_terms.specs.declared.line.Line.{Line}
use Rattle.script_terms.specs.declared.line.Line.TheVariants.{Submit, Resubmit, Deliver, ForgeOrder, ForgePrepare, ForgeCommit, ForgeHeart, ForgeRaw}
use Rattle.script_terms.specs.declared.script.Script.{Script}
use Rattle.text_model.specs.Events.{ring_for, events_of, world_of}
use Rattle.text_model.specs.Named.{named}
use Rattle.text_model.specs.Requests.{Numbered}
use Rattle.script_run.specs.States.{StandsNext, IsTurn, IsQuiet, lines_before}
use Rattle.script_run.proofs.Turns.{next_from, lines_more}
use Rattle.script_run.proofs.Settling.{clash_here}

-- a quiet event names nothing
quiet_strings : (h : List ℕ → List ℕ) (script : Script) (lines : List Numbered) (event : Event) → IsQuiet event → strings_of (ring_for h script) (world_of h script lines) event ≡ []
quiet_strings h script lines (wevent.Submit client label update) quiet = absurd quiet
quiet_strings h script lines (wevent.Resubmit client number) quiet = refl
quiet_strings h script lines (wevent.Deliver sender to place) quiet = absurd quiet
quiet_strings h script lines (wevent.Forge member to bytes) quiet = refl

-- after a quiet event the line has named nothing
pub sent_next : (h : List ℕ → List ℕ) (script : Script) (at : ℕ) (line : Line) (event : Event) (site now : SiteView) (skips : Skips) → IsTurn h script at line site skips → IsEventOf h script (lines_before script at) line event → IsQuiet event
    → Grew h site.held (Contains (strings_of (ring_for h script) (world_of h script (lines_before script at)) event)) now.held
    → WorldStands NodeStands (ring_for h script) now.world (events_of h script (lines_before script (at + 1))) → StandsNext h script at now skips
sent_next h script at line event site now skips turn is quiet grew stands = by line turn is
  where
    earlier : List Numbered
    earlier = lines_before script at

    just : HoldsJust h site.held (named h script earlier) → HoldsJust h now.held (named h script earlier ++ [])
    just holds = holds_more h site.held now.held (named h script earlier) [] holds (subst (λ ss. Grew h site.held (Contains ss) now.held) (quiet_strings h script earlier event quiet) grew) (all_none h now.held)

    here : (l : Line) (number : ℕ) → slice_get script.lines at ≡ Some (number, l) → WorldStands NodeStands (ring_for h script) now.world (events_of h script ((number, l) ∷ earlier))
    here l number there = subst (λ lines. WorldStands NodeStands (ring_for h script) now.world (events_of h script lines)) (lines_more script at (number, l) there) stands

    by : (l : Line) → IsTurn h script at l site skips → IsEventOf h script earlier l event → StandsNext h script at now skips
    by (Submit client label clauses) t e = absurd (subst IsQuiet e.0 quiet)
    by (Resubmit client number) t e = next_from h script at t.number (Resubmit client number) now skips t.here (just t.stands.holds) (here (Resubmit client number) t.number t.here) t.stands.muted_are t.stands.lost_are t.stands.requests
    by (Deliver sender to place) t e = absurd (subst IsQuiet e quiet)
    by (ForgeOrder member to seq client number) t e =
        next_from h script at t.number (ForgeOrder member to seq client number) now skips t.here (just t.stands.holds) (here (ForgeOrder member to seq client number) t.number t.here) t.stands.muted_are t.stands.lost_are t.stands.requests
    by (ForgePrepare member to seq client number) t e =
        next_from h script at t.number (ForgePrepare member to seq client number) now skips t.here (just t.stands.holds) (here (ForgePrepare member to seq client number) t.number t.here) t.stands.muted_are t.stands.lost_are t.stands.requests
    by (ForgeCommit member to seq client number) t e =
        next_from h script at t.number (ForgeCommit member to seq client number) now skips t.here (just t.stands.holds) (here (ForgeCommit member to seq client number) t.number t.here) t.stands.muted_are t.stands.lost_are t.stands.requests
    by (ForgeHeart member to label version name) t e =
        next_from h script at t.number (ForgeHeart member to label version name) now skips t.here (just t.stands.holds) (here (ForgeHeart member to label version name) t.number t.here) t.stands.muted_are t.stands.lost_are t.stands.requests
    by (ForgeRaw member to content) t e =
        next_from h script at t.number (ForgeRaw member to content) now skips t.here (just t.stands.holds) (here (ForgeRaw member to content) t.number t.here) t.stands.muted_are t.stands.lost_are t.stands.requests
    by l t e = absurd e

-- a clash at a quiet event is none of its own
pub sent_clash : (h : List ℕ → List ℕ) (script : Script) (at : ℕ) (line : Line) (event : Event) (site : SiteView) (skips : Skips) (fault : NameFault) → IsTurn h script at line site skips → IsQuiet event
    → IsClashAfter h site.held (Contains (strings_of (ring_for h script) (world_of h script (lines_before script at)) event)) fault → IsClashOf h (named h script (lines_before script (at + 1))) fault
sent_clash h script at line event site skips fault turn quiet after =
    clash_here h script at line site skips (Contains []) fault turn (λ s c. absurd (contains_none s c))
    (subst (λ ss. IsClashAfter h site.held (Contains ss) fault) (quiet_strings h script (lines_before script at) event quiet) after)

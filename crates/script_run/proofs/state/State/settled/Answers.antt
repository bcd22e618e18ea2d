use Rattle.std.proofs.Common.{rules, ◌≤◌, ◌∷◌, subst, sym}
use Rattle.pond_node.specs.declared.node.Node.{Node}
use Rattle.pond_node.specs.Standing.{NodeStands}
use Rattle.pond_world.proofs.Sites.{named_clash}
use Rattle.pond_world.specs.Sites.{SiteView}
use Rattle.ring_model.specs.Laws.{NoClash}
use Rattle.message_model.specs.Naming.{IsNamedIn}
use Rattle.ring_mail.specs.Skips.{is_skipped, Skips}
use Rattle.ring_world.specs.declared.state.World.{World}
use Rattle.ring_world.specs.Worlds.{WorldStands}
use Rattle.script_terms.specs.declared.line.Line.TheVariants.{Settle}
use Rattle.text_model.specs.Events.{ring_for, events_of, world_of, most_messages}
use Rattle.script_run.specs.States.{StandsNext, lines_before}
use Rattle.script_run.proofs.Settling.{settle_named, settle_stands, settled_next, clash_here}
use Rattle.ring_world.specs.Skipping.{skips as skips_of}
use Rattle.script_run.proofs.state.State.settled.Goals as goal

pub returns-in-Err-clause-fault : goal.returns-in-Err-clause-fault
returns-in-Err-clause-fault g c =
    let h = g.H.Hash160.naming in
    let script = c.args.script.now in
    let at = c.args.at in
    let site : SiteView = c.args.self.site in
    let skips : Skips = skips_of c.args.self.site.world in
    let ring = (c.setups_join.ensures.sound h script c.requires.within.setup).0 in
    let events = events_of h script (lines_before script at) in
    let here : WorldStands NodeStands (ring_for h script) c.world.result.now events =
    subst (λ (w : World Node). WorldStands NodeStands (ring_for h script) w events) (sym c.world.ensures.world) c.requires.stands.stands in
    let apart : NoClash (ring_for h script) (world_of h script (lines_before script at)).submits = c.submits_apart.ensures (ring_for h script) events ring here in
    let Of = IsNamedIn (ring_for h script) (is_skipped skips) events in
    let stands = c.requires.stands.stands in
    clash_here h script at Settle site skips Of c.cause_of.result c.requires (settle_named c.submits_are_requests.ensures.strings c.skips_join.ensures c.settles_are_named.ensures h script at site skips c.requires apart) (
      c.settle.new.self.held,
      c.settle.ensures.grew (ring_for h script) events ring stands,
      named_clash h c.settle.new.self.held Of c.cause_of.result c.in-Err.fault c.cause_of.ensures (c.in-Err.ensures.fault (ring_for h script) events ring stands),
    )

pub returns-in-Ok-clause-stands : goal.returns-in-Ok-clause-stands
returns-in-Ok-clause-stands g c =
    let h = g.H.Hash160.naming in
    let script = c.args.script.now in
    let at = c.args.at in
    let site : SiteView = c.args.self.site in
    let skips : Skips = skips_of c.args.self.site.world in
    let ring = (c.setups_join.ensures.sound h script c.requires.within.setup).0 in
    let events = events_of h script (lines_before script at) in
    let here : WorldStands NodeStands (ring_for h script) c.world.result.now events =
    subst (λ (w : World Node). WorldStands NodeStands (ring_for h script) w events) (sym c.world.ensures.world) c.requires.stands.stands in
    let apart : NoClash (ring_for h script) (world_of h script (lines_before script at)).submits = c.submits_apart.ensures (ring_for h script) events ring here in
    let now : SiteView = c.settle.new.self in
    let few : c.in-Ok.field-0 ≤ most_messages = search rules in
    let settles = c.in-Ok.ensures.settles (ring_for h script) events ring c.requires.stands.stands in
    let stands = settle_stands c.skips_join.ensures c.settled_joins.ensures.joins h script at site skips now c.in-Ok.field-0 c.requires few settles in
    subst (λ (left : Skips). StandsNext h script at now left) (sym c.settle.ensures.skips)
    (settled_next h script at site now skips (IsNamedIn (ring_for h script) (is_skipped skips) events) c.requires stands
    (c.settle.ensures.grew (ring_for h script) events ring c.requires.stands.stands)
    (settle_named c.submits_are_requests.ensures.strings c.skips_join.ensures c.settles_are_named.ensures h script at site skips c.requires apart)
    (c.holds_committed.ensures ((c.requires.number, Settle) ∷ lines_before script at) stands c.requires.within))

use Rattle.std.proofs.Common.{◌∷◌, Contains, subst, sym, refl}
use Rattle.std.proofs.lemmas.Result.{err_from_is_err_and}
use Rattle.pond_node.specs.declared.node.Node.{Node}
use Rattle.pond_node.specs.Standing.{NodeStands}
use Rattle.pond_world.specs.Sites.{SiteView}
use Rattle.ring_model.specs.Laws.{NoClash}
use Rattle.ring_world.specs.declared.event.Event.TheVariants as wevent
use Rattle.ring_mail.specs.Skips.{Skips}
use Rattle.ring_world.specs.declared.state.World.{World}
use Rattle.ring_world.specs.Worlds.{WorldStands, strings_of}
use Rattle.script_terms.specs.declared.line.Line.TheVariants.{Deliver}
use Rattle.text_model.specs.Events.{ring_for, events_of, world_of}
use Rattle.script_run.specs.States.{StandsNext, IsComing, lines_before}
use Rattle.script_run.proofs.Coming.{Comes, comes}
use Rattle.script_run.proofs.Settling.{delivery_named, delivered_next, clash_here}
use Rattle.script_run.proofs.Turns.{lines_more}
use Rattle.ring_world.specs.Skipping.{skips as skips_of}
use Rattle.script_run.proofs.state.State.delivered.Goals as goal

pub advanced-requires : goal.advanced-requires
advanced-requires g c = record { line = Deliver c.args.from c.args.to c.args.place; turn = c.requires; is_event = refl }

pub returns-in_err-state-clause-fault : goal.returns-in_err-state-clause-fault
returns-in_err-state-clause-fault g c =
    let h = g.H.Hash160.naming in
    let script = c.args.script.now in
    let at = c.args.at in
    let line = Deliver c.args.from c.args.to c.args.place in
    let event = wevent.Deliver c.args.from c.args.to c.args.place in
    let site : SiteView = c.args.self.site in
    let skips : Skips = skips_of c.args.self.site.world in
    let coming : IsComing h script at event site skips = record { line = line; turn = c.requires; is_event = refl } in
    let found : Comes h script at c.requires.number line event = comes c.lines_fit_in_turn.ensures.turn c.events_come_of_lines.ensures c.events_may_come.ensures c.setups_join.ensures.sound h script at event site skips coming in
    let events = events_of h script (lines_before script at) in
    let here : WorldStands NodeStands (ring_for h script) c.world.result.now events =
    subst (λ (w : World Node). WorldStands NodeStands (ring_for h script) w events) (sym c.world.ensures.world) c.requires.stands.stands in
    let apart : NoClash (ring_for h script) (world_of h script (lines_before script at)).submits =
    c.submits_apart.ensures (ring_for h script) events (c.setups_join.ensures.sound h script c.requires.within.setup).0 here in
    let p = err_from_is_err_and c.from_residual.result c.from_residual.ensures.1 in
    rw (p.1, p.2)
    (clash_here h script at line site skips (Contains (strings_of (ring_for h script) (world_of h script (lines_before script at)) event)) c.in_err-state.field-0.0 c.requires
    (delivery_named c.submits_are_requests.ensures.strings c.deliveries_are_named.ensures h script at c.args.from c.args.to c.args.place site skips c.requires found apart) c.in_err-state.ensures.fault)

pub returns-clause-stands : goal.returns-clause-stands
returns-clause-stands g c =
    let h = g.H.Hash160.naming in
    let script = c.args.script.now in
    let at = c.args.at in
    let line = Deliver c.args.from c.args.to c.args.place in
    let event = wevent.Deliver c.args.from c.args.to c.args.place in
    let site : SiteView = c.args.self.site in
    let skips : Skips = skips_of c.args.self.site.world in
    let coming : IsComing h script at event site skips = record { line = line; turn = c.requires; is_event = refl } in
    let found : Comes h script at c.requires.number line event = comes c.lines_fit_in_turn.ensures.turn c.events_come_of_lines.ensures c.events_may_come.ensures c.setups_join.ensures.sound h script at event site skips coming in
    let events = events_of h script (lines_before script at) in
    let here : WorldStands NodeStands (ring_for h script) c.world.result.now events =
    subst (λ (w : World Node). WorldStands NodeStands (ring_for h script) w events) (sym c.world.ensures.world) c.requires.stands.stands in
    let apart : NoClash (ring_for h script) (world_of h script (lines_before script at)).submits =
    c.submits_apart.ensures (ring_for h script) events (c.setups_join.ensures.sound h script c.requires.within.setup).0 here in
    let now : SiteView = c.in_ok-state.state.site in
    let stands : WorldStands NodeStands (ring_for h script) now.world (events_of h script ((c.requires.number, line) ∷ lines_before script at)) =
    subst (λ lines. WorldStands NodeStands (ring_for h script) now.world (events_of h script lines)) (lines_more script at (c.requires.number, line) c.requires.here) c.in_ok-state.ensures.stands in
    subst (λ (left : Skips). StandsNext h script at now left) (sym c.in_ok-state.ensures.skips)
    (delivered_next h script at c.args.from c.args.to c.args.place site now skips (Contains (strings_of (ring_for h script) (world_of h script (lines_before script at)) event)) c.requires stands c.in_ok-state.ensures.grew
    (delivery_named c.submits_are_requests.ensures.strings c.deliveries_are_named.ensures h script at c.args.from c.args.to c.args.place site skips c.requires found apart)
    (c.holds_committed.ensures ((c.requires.number, line) ∷ lines_before script at) stands c.requires.within))

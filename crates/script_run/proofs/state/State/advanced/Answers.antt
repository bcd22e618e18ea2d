use Rattle.std.proofs.Common.{Contains, sym, subst}
use Rattle.pond_node.specs.Standing.{NodeStands}
use Rattle.ring_world.specs.declared.state.World.{World}
use Rattle.pond_node.specs.declared.node.Node.{Node}
use Rattle.ring_world.specs.Steps.{IsStep}
use Rattle.ring_world.specs.Worlds.{WorldStands, strings_of}
use Rattle.pond_world.proofs.Sites.{named_clash}
use Rattle.script_run.specs.States.{lines_before}
use Rattle.text_model.specs.Events.{ring_for, events_of, world_of}
use Rattle.script_run.proofs.Coming.{comes, events_next}
use Rattle.script_run.proofs.Faults.{not_ended}
use Rattle.ring_world.specs.Skipping.{skips as skips_of}
use Rattle.script_run.proofs.state.State.advanced.Goals as goal

pub step-requires : goal.step-requires
step-requires g c =
    let h = g.H.Hash160.naming in
    let script = c.args.script.now in
    let found = comes c.lines_fit_in_turn.ensures.turn c.events_come_of_lines.ensures c.events_may_come.ensures c.setups_join.ensures.sound h script c.args.at c.args.event c.args.self.site (skips_of c.args.self.site.world) c.requires in
    let events = events_of h script (lines_before script c.args.at) in
    let here : WorldStands NodeStands (ring_for h script) c.world.result.now events =
    subst (λ (w : World Node). WorldStands NodeStands (ring_for h script) w events) (sym c.world.ensures.world) c.requires.turn.stands.stands in
    subst (λ (w : World Node). IsStep w c.args.event) c.world.ensures.world (c.may_step.ensures (ring_for h script) events here found.may_step)

pub cause_of-requires : goal.cause_of-requires
cause_of-requires g c = not_ended c.args.self.site.world c.step.new.self.world c.step.result c.in-Err.fault c.in-Err.is c.step.ensures.ends c.requires.turn.stands.stands.is.going

pub returns-in-Err-clause-fault : goal.returns-in-Err-clause-fault
returns-in-Err-clause-fault g c =
    let h = g.H.Hash160.naming in
    let script = c.args.script.now in
    let found = comes c.lines_fit_in_turn.ensures.turn c.events_come_of_lines.ensures c.events_may_come.ensures c.setups_join.ensures.sound h script c.args.at c.args.event c.args.self.site (skips_of c.args.self.site.world) c.requires in
    let earlier = lines_before script c.args.at in
    let ring = (c.setups_join.ensures.sound h script c.requires.turn.within.setup).0 in
    let stands = c.requires.turn.stands.stands in (
      c.step.new.self.held,
      c.step.ensures.grew (ring_for h script) (events_of h script earlier) ring stands found.may_happen,
      named_clash h c.step.new.self.held (Contains (strings_of (ring_for h script) (world_of h script earlier) c.args.event)) c.cause_of.result c.in-Err.fault c.cause_of.ensures
          (c.in-Err.ensures.fault (ring_for h script) (events_of h script earlier) ring stands found.may_happen),
    )

pub returns-in-Ok-clause-stands : goal.returns-in-Ok-clause-stands
returns-in-Ok-clause-stands g c =
    let h = g.H.Hash160.naming in
    let script = c.args.script.now in
    let found = comes c.lines_fit_in_turn.ensures.turn c.events_come_of_lines.ensures c.events_may_come.ensures c.setups_join.ensures.sound h script c.args.at c.args.event c.args.self.site (skips_of c.args.self.site.world) c.requires in
    subst (WorldStands NodeStands (ring_for h script) c.step.new.self.world)
    (sym (events_next h script c.args.at c.requires.line c.args.event c.args.self.site (skips_of c.args.self.site.world) c.requires.turn found))
    (c.in-Ok.ensures.stands (ring_for h script) (events_of h script (lines_before script c.args.at)) (c.setups_join.ensures.sound h script c.requires.turn.within.setup).0 c.requires.turn.stands.stands
    found.may_happen)

pub returns-in-Ok-clause-grew : goal.returns-in-Ok-clause-grew
returns-in-Ok-clause-grew g c =
    let h = g.H.Hash160.naming in
    let script = c.args.script.now in
    let found = comes c.lines_fit_in_turn.ensures.turn c.events_come_of_lines.ensures c.events_may_come.ensures c.setups_join.ensures.sound h script c.args.at c.args.event c.args.self.site (skips_of c.args.self.site.world) c.requires in
    c.step.ensures.grew (ring_for h script) (events_of h script (lines_before script c.args.at)) (c.setups_join.ensures.sound h script c.requires.turn.within.setup).0 c.requires.turn.stands.stands
    found.may_happen

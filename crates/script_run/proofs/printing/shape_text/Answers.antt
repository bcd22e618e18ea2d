use Rattle.std.proofs.Common.{is_some, not, string_bytes, ◌≡◌, true, false, sym, ◌∙◌, ap}
use Rattle.ring_model.specs.Messages.{Member}
use Rattle.object_fold.specs.Executed.{AreAfter}
use Rattle.pond_node.specs.Standing.{NodeStands}
use Rattle.text_model.specs.Events.{ring_for, events_of, world_of, is_declared_faulty}
use Rattle.text_model.specs.Executed.{member_requests}
use Rattle.script_run.specs.States.{lines_before}
use Rattle.script_run.proofs.Shown.{member_after, version_faulty, version_here, version_told, world_is}
use Rattle.ring_world.specs.Skipping.{skips as skips_of}
use Rattle.script_run.proofs.printing.shape_text.Goals as goal

pub returns-in-Some : goal.returns-in-Some
returns-in-Some g c =
    let h = g.H.Hash160.naming in
    let script = c.args.script.now in
    let at = c.args.at in
    let member = c.args.member in
    let turn = c.requires in
    let lines = lines_before script at in
    let ring = ring_for h script in
    let events = events_of h script lines in
    let got = (world_of h script lines).got (Member member.0) in
    let done = member_requests h script lines member in
    let stands = world_is h script lines c.args.state.now.site (skips_of c.args.state.now.site.world) c.world.result.now turn.stands c.world.ensures.world in
    let here = version_here c.lines_fit_in_turn.ensures.turn h script at member c.args.label.now c.args.version c.args.state.now.site (skips_of c.args.state.now.site.world) turn in
    let correct : true ≡ not (is_declared_faulty script member.0) = sym (ap is_some c.in-Some.is) ∙ c.node.ensures.there ring events stands here in
    let node : NodeStands c.in-Some.node.now ring member.0 got ((world_of h script lines).archived member.0) = c.in-Some.ensures.stands ring events stands here in
    let after : AreAfter h script.setup.block done c.objects.result.now =
    member_after c.ring_folds.ensures h script lines member c.in-Some.node.now c.objects.result.now turn.within c.objects.ensures.after node in
    version_told string_bytes c.shape_text.result h script lines member c.args.label.now c.args.version c.objects.result.now correct after c.shape_text.ensures

pub returns-in-None : goal.returns-in-None
returns-in-None g c =
    let h = g.H.Hash160.naming in
    let script = c.args.script.now in
    let at = c.args.at in
    let member = c.args.member in
    let turn = c.requires in
    let lines = lines_before script at in
    let ring = ring_for h script in
    let stands = world_is h script lines c.args.state.now.site (skips_of c.args.state.now.site.world) c.world.result.now turn.stands c.world.ensures.world in
    let here = version_here c.lines_fit_in_turn.ensures.turn h script at member c.args.label.now c.args.version c.args.state.now.site (skips_of c.args.state.now.site.world) turn in
    let faulty : false ≡ not (is_declared_faulty script member.0) = sym (ap is_some c.in-None.is) ∙ c.node.ensures.there ring (events_of h script lines) stands here in
    version_faulty string_bytes c.faulty_text.result h script lines member c.args.label.now c.args.version faulty c.faulty_text.ensures

use Rattle.std.proofs.Common.{[], string_bytes}
use Rattle.object_model.specs.Trees.{object_name}
use Rattle.object_fold.specs.Executed.{AreAfter}
use Rattle.ring_model.proofs.Lists.{there_first}
use Rattle.script_terms.specs.declared.line.Line.TheVariants.{Read}
use Rattle.text_model.specs.Events.{ring_for, events_of}
use Rattle.text_model.specs.Executed.{committed_requests}
use Rattle.text_model.specs.Believed.{letters_of}
use Rattle.script_run.specs.States.{lines_before}
use Rattle.script_run.proofs.Shown.{committed_after, world_is}
use Rattle.script_run.proofs.Turns.{turn_fits}
use Rattle.script_run.proofs.Labelled.{name_here, one_name}
use Rattle.script_run.proofs.Believing.{client_here, heart_is, read_told}
use Rattle.ring_world.specs.Skipping.{skips as skips_of}
use Rattle.script_run.proofs.printing.read_text.Goals as goal

pub client-requires : goal.client-requires
client-requires g c =
    let a = c.args in
    let h = g.H.Hash160.naming in
    client_here h a.script.now (lines_before a.script.now a.at) a.state.now.site (skips_of a.state.now.site.world) a.client c.requires.turn.stands
    (turn_fits c.lines_fit_in_turn.ensures.turn h a.script.now a.at (Read a.client a.label.now) a.state.now.site (skips_of a.state.now.site.world) c.requires.turn).meets.0

pub object_of-requires : goal.object_of-requires
object_of-requires g c =
    let a = c.args in
    (object_name g.H.Hash160.naming a.label.now, name_here g.H.Hash160.naming a.labels.now.entries a.script.now.lines a.at _ a.label.now c.requires.labels c.requires.turn.here (there_first a.label.now []))

pub returns : goal.returns
returns g c =
    let a = c.args in
    let h = g.H.Hash160.naming in
    let script = a.script.now in
    let lines = lines_before script a.at in
    let ring = ring_for h script in
    let events = events_of h script lines in
    let turn = c.requires.turn in
    let stands = world_is h script lines a.state.now.site (skips_of a.state.now.site.world) c.world.result.now turn.stands c.world.ensures.world in
    let after : AreAfter h script.setup.block (committed_requests h script lines) c.objects-objects.result.now =
    committed_after c.ring_folds.ensures h script lines c.committed.result.now c.objects-objects.result.now turn.within c.objects-objects.ensures.after
    (c.committed.ensures.chosen ring events stands) in
    let named = name_here h a.labels.now.entries script.lines a.at _ a.label.now c.requires.labels turn.here (there_first a.label.now []) in
    let same = one_name a.labels.now.entries a.label.now c.object_of.result (object_name h a.label.now) c.object_of.ensures named in
    let believed = c.hearts-hearts.ensures ring a.client.0 _ (letters_of h script lines a.client) (c.client.ensures.stands ring events turn.stands.stands) in
    let heart = heart_is h script lines a.client a.label.now c.object_of.result c.hearts-hearts.result.now c.newest-heart.result same believed c.newest-heart.ensures in
    read_told string_bytes c.read_text.result h script lines a.client a.label.now c.objects-objects.result.now c.newest-heart.result after heart c.read_text.ensures

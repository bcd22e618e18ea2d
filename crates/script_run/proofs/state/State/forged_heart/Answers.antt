use Rattle.std.proofs.Common.{[]}
use Rattle.object_model.specs.Trees.{object_name}
use Rattle.ring_model.proofs.Lists.{there_first}
use Rattle.script_run.proofs.Forgeries.{heart_forged}
use Rattle.script_run.proofs.Labelled.{name_here, one_name}
use Rattle.ring_world.specs.Skipping.{skips as skips_of}
use Rattle.script_run.proofs.state.State.forged_heart.Goals as goal

pub object_of-object-requires : goal.object_of-object-requires
object_of-object-requires g c =
    let a = c.args in
    (object_name g.H.Hash160.naming a.label.now, name_here g.H.Hash160.naming a.labels.now.entries a.script.now.lines a.at _ a.label.now c.requires.labels c.requires.turn.here (there_first a.label.now []))

pub forged-requires : goal.forged-requires
forged-requires g c =
    let a = c.args in
    let h = g.H.Hash160.naming in
    let named = name_here h a.labels.now.entries a.script.now.lines a.at _ a.label.now c.requires.labels c.requires.turn.here (there_first a.label.now []) in
    heart_forged c.lines_fit_in_turn.ensures.turn h a.script.now a.at a.member a.to a.label.now a.version a.name c.object_of-object.result a.self.site (skips_of a.self.site.world) c.requires.turn
    (one_name a.labels.now.entries a.label.now c.object_of-object.result (object_name h a.label.now) c.object_of-object.ensures named)

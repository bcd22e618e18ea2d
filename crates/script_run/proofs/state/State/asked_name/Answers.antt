use Rattle.std.proofs.Common.{◌∙◌, sym, subst}
use Rattle.std.proofs.lemmas.Result.{err_from_is_err_and}
use Rattle.pond_node.specs.declared.node.Node.{Node}
use Rattle.ring_world.specs.declared.state.World.{World}
use Rattle.script_run.specs.States.{StandsFor, lines_before}
use Rattle.script_run.proofs.Forgeries.{asked_named, again_clash, named_again}
use Rattle.ring_world.specs.Skipping.{skips as skips_of}
use Rattle.script_run.proofs.state.State.asked_name.Goals as goal

pub returns-in_err-name-clause-fault : goal.returns-in_err-name-clause-fault
returns-in_err-name-clause-fault g c =
    let p = err_from_is_err_and c.from_residual-in_err-name.result c.from_residual-in_err-name.ensures.1 in
    let h = g.H.Hash160.naming in
    let a = c.args in
    let lines = lines_before a.script.now a.at in
    let text = c.as_slice.result.now in
    let there = asked_named c.asked_is_there.ensures h a.script.now lines a.self.site (skips_of a.self.site.world) a.client a.number text c.requires.stands c.requires.sent (c.as_slice.ensures ∙ c.in_ok-text.ensures) in
    rw (p.1, p.2) (again_clash h a.script.now lines a.self.site (skips_of a.self.site.world) text c.name.new.self.held c.in_err-name.field-0.0 c.requires.stands there c.name.ensures.grew c.in_err-name.ensures.fault)

pub returns-clause-stands : goal.returns-clause-stands
returns-clause-stands g c =
    let h = g.H.Hash160.naming in
    let a = c.args in
    let lines = lines_before a.script.now a.at in
    let text = c.as_slice.result.now in
    let there = asked_named c.asked_is_there.ensures h a.script.now lines a.self.site (skips_of a.self.site.world) a.client a.number text c.requires.stands c.requires.sent (c.as_slice.ensures ∙ c.in_ok-text.ensures) in
    subst (λ (w : World Node). StandsFor h a.script.now lines c.name.new.self (skips_of w)) (sym c.name.ensures.world)
    (named_again h a.script.now lines a.self.site c.name.new.self (skips_of a.self.site.world) text c.requires.stands there c.name.ensures.world c.in_ok-name.ensures.held)

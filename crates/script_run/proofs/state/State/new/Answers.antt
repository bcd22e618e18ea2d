use Rattle.std.proofs.Common.{List, ℕ, [], ◌++◌, sym, subst}
use Rattle.std.specs.List.{flat_map}
use Rattle.std.proofs.lemmas.Result.{err_from_is_err_and}
use Rattle.object_model.specs.Trees.{version_strings}
use Rattle.script_requests.specs.Holding.{HoldsJust, IsClashOf}
use Rattle.text_model.specs.Events.{no_archives}
use Rattle.text_model.specs.Named.{label_strings}
use Rattle.pond_node.specs.declared.node.Node.{Node}
use Rattle.ring_world.specs.declared.state.World.{World}
use Rattle.ring_world.specs.Skipping.{skips as skips_of, PassNothing}
use Rattle.script_run.proofs.First.{holds_first, first_clash}
use Rattle.script_run.proofs.Opening.{stands_first}
use Rattle.script_run.proofs.state.State.new.Goals as goal

pub returns-in_err-site-clause-fault : goal.returns-in_err-site-clause-fault
returns-in_err-site-clause-fault g c =
    let p = err_from_is_err_and c.from_residual.result c.from_residual.ensures.1 in
    let h : List ℕ → List ℕ = g.H.Hash160.naming in
    let script = c.args.script.now in
    rw (p.1, p.2) (first_clash h (version_strings h script.setup.block [] []) (flat_map label_strings script.lines) c.in_err-site.field-0.0 c.in_err-site.ensures.fault)

pub returns-in_err-labels-clause-fault : goal.returns-in_err-labels-clause-fault
returns-in_err-labels-clause-fault g c =
    let p = err_from_is_err_and c.from_residual-in_err-labels.result c.from_residual-in_err-labels.ensures.1 in
    let h : List ℕ → List ℕ = g.H.Hash160.naming in
    let script = c.args.script.now in
    let just = holds_first h c.in_ok-site.site.held (version_strings h script.setup.block [] []) c.in_ok-site.ensures.grew (c.holds_empty.ensures (c.in_ok-site.ensures.stands no_archives) c.requires) in
    rw (p.1, p.2)
    (subst (λ lines. IsClashOf h (version_strings h script.setup.block [] [] ++ flat_map label_strings lines) c.in_err-labels.field-0.0) c.as_slice.ensures
    (c.in_err-labels.ensures.fault (version_strings h script.setup.block [] []) just))

pub returns-clause-stands : goal.returns-clause-stands
returns-clause-stands g c =
    let h : List ℕ → List ℕ = g.H.Hash160.naming in
    let script = c.args.script.now in
    stands_first h script c.in_ok-site.site c.name_labels.new.site _ (c.in_ok-site.ensures.stands no_archives)
    (holds_first h c.in_ok-site.site.held (version_strings h script.setup.block [] []) c.in_ok-site.ensures.grew (c.holds_empty.ensures (c.in_ok-site.ensures.stands no_archives) c.requires)) c.name_labels.ensures.world
    (λ strings just. subst (λ lines. HoldsJust h c.name_labels.new.site.held (strings ++ flat_map label_strings lines)) c.as_slice.ensures (c.in_ok-labels.ensures.holds strings just)) (subst (λ (w : World Node). PassNothing (skips_of w)) (sym c.name_labels.ensures.world) c.in_ok-site.ensures.skips)

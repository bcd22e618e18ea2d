use Rattle.std.proofs.Common.{◌++◌, ◌∙◌, refl, take, reverse, subst, arith, rules}
use Rattle.std.specs.List.{flat_map}
use Rattle.std.proofs.lemmas.Result.{err_from_is_err_and}
use Rattle.script_requests.specs.Holding.{HoldsJust}
use Rattle.text_model.specs.Named.{label_strings}
use Rattle.script_run.specs.Labels.{AreLabels}
use Rattle.script_run.proofs.Labelled.{labels_next}
use Rattle.script_run.proofs.LabelStrings.{labels_more, labels_clash, all_lines}
use Rattle.script_run.proofs.Turns.{holds_still}
use Rattle.script_run.proofs.beginning.name_labels.Goals as goal

pub loop-line-init : goal.loop-line-init
loop-line-init g c = record {
  world = refl;
  holds = λ strings just. holds_still g.H.Hash160.naming c.args.site.now strings just;
  labels = search rules;
}

pub returns-in_err-name_label_of-clause-fault : goal.returns-in_err-name_label_of-clause-fault
returns-in_err-name_label_of-clause-fault g c =
    let p = err_from_is_err_and c.from_residual.result c.from_residual.ensures.1 in
    let lines = c.args.lines.now in
    let i = c.loop-line.line-index in
    rw (p.1, p.2)
    (λ strings just.
    labels_clash g.H.Hash160.naming strings lines i c.loop-line-item.result c.in_err-name_label_of.field-0.0 c.loop-line-test.true c.loop-line-item.is
    (c.in_err-name_label_of.ensures.fault c.loop-line-item.result.0 (strings ++ flat_map label_strings (take i lines)) (c.loop-line.invariant.holds strings just)))

pub loop-line-preserved : goal.loop-line-preserved
loop-line-preserved g c =
    let lines = c.args.lines.now in
    let i = c.loop-line.line-index in
    record {
      world = c.name_label_of.ensures.world ∙ c.loop-line.invariant.world;
      holds = λ strings just. subst (HoldsJust g.H.Hash160.naming c.name_label_of.new.site.held) (labels_more strings lines i c.loop-line-item.result c.loop-line-test.true c.loop-line-item.is)
          (c.in_ok-name_label_of.ensures.holds c.loop-line-item.result.0 (strings ++ flat_map label_strings (take i lines)) (c.loop-line.invariant.holds strings just));
      labels = labels_next g.H.Hash160.naming c.name_label_of.new.labels.entries lines i c.loop-line-item.result c.loop-line-test.true c.loop-line-item.is
          (c.in_ok-name_label_of.ensures.labels c.loop-line-item.result.0 (reverse (take i lines)) c.loop-line.invariant.labels);
    }

pub returns-clause-world : goal.returns-clause-world
returns-clause-world g c = c.loop-line.invariant.world

pub returns-clause-holds : goal.returns-clause-holds
returns-clause-holds g c = λ strings just.
    subst (λ lines. HoldsJust g.H.Hash160.naming c.loop-line.site.held (strings ++ flat_map label_strings lines)) (all_lines c.args.lines.now c.loop-line.line-index (omega (arith, c.loop-line-test.false)))
    (c.loop-line.invariant.holds strings just)

pub returns-clause-labels : goal.returns-clause-labels
returns-clause-labels g c =
    subst (λ lines. AreLabels g.H.Hash160.naming c.loop-line.labels.entries (reverse lines)) (all_lines c.args.lines.now c.loop-line.line-index (omega (arith, c.loop-line-test.false))) c.loop-line.invariant.labels

use Rattle.std.proofs.Common.{◌∙◌}
use Rattle.std.proofs.lemmas.Result.{err_from_is_err_and}
use Rattle.tree_format.specs.Strings.{label_string}
use Rattle.script_run.proofs.Opening.{one_held, one_clash}
use Rattle.script_run.proofs.beginning.name_label.Goals as goal

pub returns-in_err-name-clause-fault : goal.returns-in_err-name-clause-fault
returns-in_err-name-clause-fault g c =
    let p = err_from_is_err_and c.from_residual-in_err-name.result c.from_residual-in_err-name.ensures.1 in
    rw (p.1, p.2)
    (one_clash g.H.Hash160.naming c.args.site.now.held c.as_slice.result.now (label_string c.args.label.now) c.in_err-name.field-0.0 (c.as_slice.ensures ∙ c.in_ok-string.ensures)
    (c.name.new.self.held, c.name.ensures.grew, c.in_err-name.ensures.fault))

pub returns-clause-holds : goal.returns-clause-holds
returns-clause-holds g c =
    one_held g.H.Hash160.naming c.args.site.now.held c.name.new.self.held c.as_slice.result.now (label_string c.args.label.now) (c.as_slice.ensures ∙ c.in_ok-string.ensures) c.in_ok-name.ensures.held c.name.ensures.grew

use Rattle.std.proofs.Common.{◌++◌, ap, sym, ◌∙◌, append-nil}
use Rattle.cow_tree.proofs.Differing.{none_changed}
use Rattle.cow_tree.proofs.changed.add_unless_same.Goals as goal

pub returns-then-has_names_of : goal.returns-then-has_names_of
returns-then-has_names_of c =
    sym (ap (λ ns. c.args.changed.now ++ ns) (none_changed c.args.group.now c.args.before.now (c.has_names_of.ensures c.if-has_names_of.true)) ∙ append-nil c.args.changed.now)

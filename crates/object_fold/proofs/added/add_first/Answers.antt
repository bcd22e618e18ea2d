use Rattle.object_fold.proofs.Adding.{adds_first}
use Rattle.object_fold.proofs.added.add_first.Goals as goal

pub returns : goal.returns
returns c =
    adds_first (record { first = c.args.first.now; later = c.args.later.now.entries }) c.insert.new.self.entries c.args.label.now c.args.changed.now c.in_ok-strings.strings c.add.new.self
    (λ other. c.in_ok-insert.ensures.updates.0 other) c.requires c.in_ok-strings.ensures.names c.in_ok-strings.ensures.added c.in_ok-add.ensures

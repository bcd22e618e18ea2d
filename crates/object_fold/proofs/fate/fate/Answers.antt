use Rattle.std.proofs.Common.{ap, sym, ◌∙◌}
use Rattle.object_fold.specs.Choice.{length_after_all}
use Rattle.object_fold.proofs.Lengths.{all_lengths}
use Rattle.object_fold.proofs.fate.fate.Goals as goal

pub returns : goal.returns
returns c = λ bytes e. all_lengths c.args.actions.now bytes ∙ ap (length_after_all c.args.actions.now) e ∙ sym c.after_all.ensures

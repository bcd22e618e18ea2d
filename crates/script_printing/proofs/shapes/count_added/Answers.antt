use Rattle.std.proofs.Common.{sym}
use Rattle.object_model.specs.Folds.{versions_after}
use Rattle.script_printing.proofs.Versions.{count_added, none_added}
use Rattle.script_printing.proofs.shapes.count_added.Goals as goal

pub returns-in-Some : goal.returns-in-Some
returns-in-Some c = λ h block done after content older up.
    count_added h block (versions_after h block c.args.label.now done) c.args.version.0 c.in-Some.added.now (sym (c.in-Some.ensures h block done after)) content older up

pub returns-in-None : goal.returns-in-None
returns-in-None c = λ h block done after content older up.
    none_added h block (versions_after h block c.args.label.now done) c.args.version.0 _ (sym (c.in-None.ensures h block done after)) content older up

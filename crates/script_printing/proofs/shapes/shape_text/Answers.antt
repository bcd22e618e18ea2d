use Rattle.std.proofs.Common.{sym}
use Rattle.std.proofs.lemmas.Result.{IfOk-weaker}
use Rattle.object_model.specs.Folds.{versions_after}
use Rattle.script_printing.proofs.Versions.{shown, none_shown}
use Rattle.script_printing.proofs.shapes.shape_text.Goals as goal

pub returns-in_ok-from_str-in-None : goal.returns-in_ok-from_str-in-None
returns-in_ok-from_str-in-None c = λ h block done after.
    none_shown h block (versions_after h block c.args.label.now done) c.args.version.0 _ (sym (c.in-None.ensures.tree h block done after)) c.in_ok-from_str-in-None.ensures.ok

pub returns-in-Some : goal.returns-in-Some
returns-in-Some c =
    IfOk-weaker c.shape_line.result _ _
    (λ printed line h block done after.
    shown h block (versions_after h block c.args.label.now done) c.args.version.0 c.in-Some.tree.now _ (sym (c.in-Some.ensures.tree h block done after))
    (λ content older up stands. line h block content older stands (c.count_added.ensures h block done after content older up)))
    c.shape_line.ensures

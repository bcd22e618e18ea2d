use Rattle.std.proofs.Common.{◌∙◌, sym, ap}
use Rattle.std.proofs.lemmas.Result.{IfOk-weaker}
use Rattle.object_model.specs.Folds.{versions_after}
use Rattle.heartbeat.specs.Joins.{marked}
use Rattle.text_model.specs.Blocks as model
use Rattle.script_printing.proofs.Versions.{read_up_to, none_read}
use Rattle.script_printing.proofs.reads.read_text.Goals as goal

pub returns-in_ok-bytes-in-Some-tree : goal.returns-in_ok-bytes-in-Some-tree
returns-in_ok-bytes-in-Some-tree c =
    IfOk-weaker c.version_line.result _ _
    (λ printed line h block done after object.
    let versions = versions_after h block c.args.label.now done in
    read_up_to h block versions c.in-Some.version.0 c.in-Some-tree.tree.now c.deref.result.now _ (sym (c.in-Some-tree.ensures.tree h block done after))
    (λ content older stands. c.deref.ensures.value ∙ c.in_ok-bytes-in-Some-tree.ensures.newest h block content older stands) line
    ∙ sym (ap (λ heart. model.read_text (model.up_to_heart (marked object heart) versions)) c.in-Some.is))
    c.version_line.ensures

pub returns-in_ok-from_str-in-None : goal.returns-in_ok-from_str-in-None
returns-in_ok-from_str-in-None c = λ h block done after object.
    let versions = versions_after h block c.args.label.now done in
    none_read h block versions c.in-Some.version.0 _ (sym (c.in-None.ensures.tree h block done after)) c.in_ok-from_str-in-None.ensures.ok
    ∙ sym (ap (λ heart. model.read_text (model.up_to_heart (marked object heart) versions)) c.in-Some.is)

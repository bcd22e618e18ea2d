use Rattle.std.proofs.lemmas.Result.{IfOk-weaker}
use Rattle.script_run.proofs.Labelled.{labels_more}
use Rattle.script_run.proofs.beginning.name_label_of.Goals as goal

pub returns-in-Submit-clause-holds : goal.returns-in-Submit-clause-holds
returns-in-Submit-clause-holds g c = IfOk-weaker c.name_label.result _ _ (λ now p number strings just. rw c.in-Submit.is (p strings just)) c.name_label.ensures.holds

pub returns-in-Read-clause-holds : goal.returns-in-Read-clause-holds
returns-in-Read-clause-holds g c = IfOk-weaker c.name_label-in-Read.result _ _ (λ now p number strings just. rw c.in-Read.is (p strings just)) c.name_label-in-Read.ensures.holds

pub returns-in-ShowVersion-clause-holds : goal.returns-in-ShowVersion-clause-holds
returns-in-ShowVersion-clause-holds g c =
    IfOk-weaker c.name_label-in-ShowVersion.result _ _ (λ now p number strings just. rw c.in-ShowVersion.is (p strings just)) c.name_label-in-ShowVersion.ensures.holds

pub returns-in-ForgeHeart-clause-holds : goal.returns-in-ForgeHeart-clause-holds
returns-in-ForgeHeart-clause-holds g c =
    IfOk-weaker c.name_label-in-ForgeHeart.result _ _ (λ now p number strings just. rw c.in-ForgeHeart.is (p strings just)) c.name_label-in-ForgeHeart.ensures.holds

pub returns-in-Submit-clause-labels : goal.returns-in-Submit-clause-labels
returns-in-Submit-clause-labels g c =
    IfOk-weaker c.name_label.result _ _
    (λ now is number lines were. rw c.in-Submit.is (labels_more g.H.Hash160.naming c.args.labels.now.entries c.name_label.new.labels.entries lines c.in-Submit.label is were))
    c.name_label.ensures.labels

pub returns-in-ForgeHeart-clause-labels : goal.returns-in-ForgeHeart-clause-labels
returns-in-ForgeHeart-clause-labels g c =
    IfOk-weaker c.name_label-in-ForgeHeart.result _ _
    (λ now is number lines were. rw c.in-ForgeHeart.is (labels_more g.H.Hash160.naming c.args.labels.now.entries c.name_label-in-ForgeHeart.new.labels.entries lines c.in-ForgeHeart.label is were))
    c.name_label-in-ForgeHeart.ensures.labels

pub returns-in-Read-clause-labels : goal.returns-in-Read-clause-labels
returns-in-Read-clause-labels g c =
    IfOk-weaker c.name_label-in-Read.result _ _
    (λ now is number lines were. rw c.in-Read.is (labels_more g.H.Hash160.naming c.args.labels.now.entries c.name_label-in-Read.new.labels.entries lines c.in-Read.label is were))
    c.name_label-in-Read.ensures.labels

pub returns-in-ShowVersion-clause-labels : goal.returns-in-ShowVersion-clause-labels
returns-in-ShowVersion-clause-labels g c =
    IfOk-weaker c.name_label-in-ShowVersion.result _ _
    (λ now is number lines were. rw c.in-ShowVersion.is (labels_more g.H.Hash160.naming c.args.labels.now.entries c.name_label-in-ShowVersion.new.labels.entries lines c.in-ShowVersion.label is were))
    c.name_label-in-ShowVersion.ensures.labels

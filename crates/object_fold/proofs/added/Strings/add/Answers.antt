use Rattle.std.proofs.Common.{[], ◌∷◌, ◌++◌, ◌∙◌, ap, subst}
use Rattle.std.proofs.lemmas.Result.{on_ok_weaker}
use Rattle.object_fold.specs.Added.{AddsStrings}
use Rattle.object_fold.proofs.added.Strings.add.Goals as goal

pub returns : goal.returns
returns c =
    on_ok_weaker c.push.result (λ e.
    subst (λ old. AddsStrings old (record { names = c.take_new.new.names.keys; added = c.push.new.self }) c.args.changed.now) c.self.view_is
    (record {
      names = λ known just. (c.in_ok-taken.ensures known just).0;
      added = λ known just. e ∙ ap (λ ns. c.self.inside.added ++ ns ∷ []) (c.in_ok-taken.ensures known just).1;
    })) c.push.ensures.ok

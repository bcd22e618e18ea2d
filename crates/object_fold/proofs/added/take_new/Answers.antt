use Rattle.std.proofs.Common.{◌≡◌, ◌<◌, ◌+◌, ◌++◌, ◌∷◌, [], List, ℕ, cond, true, not, length, sym, ◌∙◌, ap, subst, arith, append-nil}
use Rattle.std.specs.Ordering.{nat_cmp}
use Rattle.std.specs.Cmp.Lexicographic.{slice_cmp}
use Rattle.std.specs.BTreeMap.{is_at}
use Rattle.cow_tree.specs.Views.{NodeView}
use Rattle.std.proofs.lemmas.List.{take_all}
use Rattle.object_fold.specs.Added.{TakesNew, is_among}
use Rattle.object_fold.proofs.Adding.{TakenUpTo, taken_more}
use Rattle.object_fold.proofs.added.take_new.Goals as goal
use Rattle.object_fold.proofs.added.take_new.Goals.{then-branch+in_ok-share+in_ok-push, else-branch}

pub loop-node-preserved : goal.loop-node-preserved
loop-node-preserved c =
    let at = c.loop-node in
    let node : NodeView = c.node-item.result in
    let within : at.node-index < length c.args.nodes.now = omega arith in
    let puts : (other : List ℕ) → is_among other c.insert.new.self.keys ≡ cond (is_at (slice_cmp nat_cmp node.name) other) true (is_among other at.names.keys) =
    subst (λ x. (other : List ℕ) → is_among other c.insert.new.self.keys ≡ cond (is_at (slice_cmp nat_cmp x) other) true (is_among other at.names.keys)) c.name.ensures (λ other. c.in_ok-insert.ensures.updates.0 other) in
    let told : c.in_ok-insert.field-0 ≡ not (is_among node.name at.names.keys) = c.in_ok-insert.ensures.added ∙ ap (λ x. not (is_among x at.names.keys)) c.name.ensures in
    let step : (more : List NodeView) → more ≡ at.taken ++ cond c.in_ok-insert.field-0 (node ∷ []) [] → TakenUpTo c.args.names.now.keys c.insert.new.self.keys c.args.nodes.now (at.node-index + 1) more =
    λ more is. taken_more c.args.names.now.keys at.names.keys c.insert.new.self.keys c.args.nodes.now at.node-index node at.taken more c.in_ok-insert.field-0 within c.node-item.is puts told is at.invariant in
    elim c.if-branch.branch [
      | then-branch+in_ok-share+in_ok-push w ↦
          step c.if-branch.taken (w.taken-is ∙ w.in_ok-push.ensures.ok ∙ ap (λ n. at.taken ++ n ∷ []) w.in_ok-share.ensures ∙ sym (ap (λ b. at.taken ++ cond b (node ∷ []) []) w.if-branch.true))
      | else-branch w ↦ step c.if-branch.taken (w.taken-is ∙ sym (append-nil at.taken) ∙ sym (ap (λ b. at.taken ++ cond b (node ∷ []) []) w.if-branch.false))
    ]

pub returns : goal.returns
returns c =
    subst (λ ns. TakesNew c.args.names.now.keys c.loop-node.names.keys ns c.loop-node.taken) (take_all c.loop-node.node-index c.args.nodes.now (omega arith)) c.loop-node.invariant

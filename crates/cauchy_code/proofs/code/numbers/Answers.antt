use Rattle.std.proofs.Common.{◌∙◌, sym, ap, ◌++◌, ◌∷◌, [], ◌+◌}
use Rattle.cauchy_code.proofs.Blocks.{range_more}
use Rattle.cauchy_code.proofs.code.numbers.Goals as goal

pub loop-k-preserved : goal.loop-k-preserved
loop-k-preserved c = c.in_ok-push.ensures.items ∙ ap (λ t. t ++ (c.args.start + c.loop-k.k) ∷ []) c.loop-k.invariant ∙ sym (range_more c.args.start c.loop-k.k)

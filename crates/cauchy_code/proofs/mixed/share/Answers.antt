use Rattle.std.proofs.Common.{sym, get_or, ◌+◌, arith}
use Rattle.std.proofs.lemmas.Grind.{common_steps}
use Rattle.cauchy_code.specs.Systematic.{share}
use Rattle.gf256.proofs.Ring.{xor_differ}
use Rattle.cauchy_code.proofs.Steps.{away_at}
use Rattle.cauchy_code.proofs.MixedSteps.{share_more, zeros_list}
use Rattle.cauchy_code.proofs.mixed.share.Goals as goal

pub loop-x-init : goal.loop-x-init
unfolding share
loop-x-init c = zeros_list c.in_ok-share.share.items c.args.ks.now (grind (arith, common_steps)) (λ i lt. grind (arith, common_steps))

pub inv-requires : goal.inv-requires
inv-requires c = xor_differ (get_or c.args.xs.now c.loop-x.x-index 0) (c.args.n + c.args.k) (λ e. away_at (c.args.n + c.args.k) c.args.xs.now c.loop-x.x-index c.requires.differ c.loop-x-test.true (sym e))

pub loop-x-preserved : goal.loop-x-preserved
loop-x-preserved c = share_more c.args.n c.args.k c.args.ks.now c.args.xs.now c.loop-x.share.items _ c.loop-x.x-index c.inv.result c.loop-x-test.true c.loop-x.invariant c.in_ok-push.ensures.items c.inv.ensures.value

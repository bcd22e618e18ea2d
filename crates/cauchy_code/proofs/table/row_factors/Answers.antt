use Rattle.std.proofs.Common.{get_or}
use Rattle.cauchy_code.specs.Code.{cauchy_row}
use Rattle.gf256.proofs.Ring.{xor_differ}
use Rattle.cauchy_code.proofs.Steps.{cauchy_step_more, away_at}
use Rattle.cauchy_code.proofs.table.row_factors.Goals as goal

pub loop-y-init : goal.loop-y-init
unfolding cauchy_row
loop-y-init c = c.in_ok-factors.ensures.items

pub inv-requires : goal.inv-requires
inv-requires c = xor_differ c.args.x (get_or c.args.ys.now c.loop-y.y-index 0) (away_at c.args.x c.args.ys.now c.loop-y.y-index c.requires c.loop-y-test.true)

pub loop-y-preserved : goal.loop-y-preserved
loop-y-preserved c = cauchy_step_more c.args.x c.args.ys.now c.loop-y.factors.items _ c.loop-y.y-index c.inv.result c.loop-y-test.true c.loop-y.invariant c.in_ok-push.ensures.items c.inv.ensures.value

use Rattle.std.proofs.Common.{ap, arith}
use Rattle.guarded_update.specs.Fitting as fit
use Rattle.guarded_update.proofs.Sizes.{nothing_left}
use Rattle.guarded_update.proofs.fitting.content_in.Goals as goal

pub returns : goal.returns
returns c = omega (arith, c.loop-rest.invariant.0, c.loop-rest.invariant.1, ap fit.content_in (nothing_left c.loop-rest.rest.now c.in_default.len_below))

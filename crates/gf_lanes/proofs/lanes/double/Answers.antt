use Rattle.std.proofs.Common.{arith}
use Rattle.std.proofs.lemmas.Bool.{lt-ltb, le-ltb}
use Rattle.gf_lanes.proofs.Products.{double_is}
use Rattle.gf_lanes.proofs.lanes.double.Goals as goal

pub returns-then-a-lt128 : goal.returns-then-a-lt128
returns-then-a-lt128 c = rw (lt-ltb c.args.a 128 c.if-a-lt128.true) at (double_is c.args.a (omega arith))

pub returns-else-a-lt128 : goal.returns-else-a-lt128
returns-else-a-lt128 c = rw (le-ltb c.args.a 128 c.if-a-lt128.false) at (double_is c.args.a (omega arith))

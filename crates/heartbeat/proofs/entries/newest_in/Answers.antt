use Rattle.std.proofs.Common.{None, ap, ◌∙◌}
use Rattle.heartbeat.proofs.Own.{newest_along, along_own}
use Rattle.heartbeat.proofs.entries.newest_in.Goals as goal

pub loop-key-init : goal.loop-key-init
loop-key-init c =
    ap (newest_along c.args.object None) (c.into_iter-key-iterator.ensures.into_iter_gives ∙ c.range-key-items.ensures.between tt)
    ∙ along_own c.args.object None c.args.entries.now.entries c.range-key-items.ensures.ordered

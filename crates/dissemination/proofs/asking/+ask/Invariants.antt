use Rattle.std.proofs.Common.{◌+◌, ◌*◌}
use Rattle.dissemination.proofs.Climbing.{height}
use Rattle.dissemination.proofs.asking.+ask.Given as goal

abbrev pub decreases-offer : goal.decreases-offer
decreases-offer g l = 3 * l.replica + 2

abbrev pub decreases-fetch : goal.decreases-fetch
decreases-fetch g l = 3 * l.replica + 1

abbrev pub decreases-ask : goal.decreases-ask
decreases-ask g l = height l.place

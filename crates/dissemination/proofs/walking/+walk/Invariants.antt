use Rattle.std.proofs.Common.{◌+◌, ◌*◌, length}
use Rattle.dissemination.proofs.walking.+walk.Given as goal

abbrev pub decreases-walk : goal.decreases-walk
decreases-walk g l = 66 * l.depth

abbrev pub decreases-walk_all : goal.decreases-walk_all
decreases-walk_all g l = 66 * l.depth + 1 + length l.names.now

use Rattle.std.proofs.Common.{◌≡◌, ◌≤◌, ◌-◌, length, All}
use Rattle.version_board.specs.Reads.{unread}
use Rattle.version_board.proofs.opening.seats.Given as goal

abbrev pub invariant-loop-pen : goal.invariant-loop-pen
invariant-loop-pen l = (l.pen ≡ l.fn.pen) × (length l.seats.items ≤ l.readers) × All (λ reader. reader ≡ unread l.fn.front.board) l.seats.items

abbrev pub decreases-loop-pen : goal.decreases-loop-pen
decreases-loop-pen l = l.readers - length l.seats.items

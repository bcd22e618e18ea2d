use Rattle.std.proofs.Common.{◌≤◌, ◌-◌, drop, length, IsTrue, is_some}
use Rattle.std.specs.List.{list_any}
use Rattle.ring_world.proofs.crew.first_correct.Given as goal

abbrev pub invariant-loop-at : goal.invariant-loop-at
invariant-loop-at g l = (l.at ≤ length l.nodes) × IsTrue (list_any is_some (drop l.at l.nodes))

abbrev pub decreases-loop-at : goal.decreases-loop-at
decreases-loop-at g l = length l.nodes - l.at

use Rattle.std.proofs.Common.{◌≡◌, ℕ, ◌+◌, ◌*◌, ◌≤◌, List, length}
use Rattle.std.specs.Prelude.{IfSome}
use Rattle.ring_model.specs.Messages.{Ring}
use Rattle.ring_model.specs.Messages.{Party, Letter}
use Rattle.ring_world.specs.Crew.{AreMembers}
use Rattle.ring_world.specs.Bests.{IsBest}
use Rattle.ring_world.specs.Nodes.{HasNode}
use Rattle.ring_world.proofs.members.Members.best.Given as goal

abbrev pub invariant-loop-left : goal.invariant-loop-left
invariant-loop-left g l = (l.left ≤ length l.self.nodes.items) × IfSome l.best (HasNode l.self.nodes.items) × ((r : Ring) (got : Party → List Letter) (archived : ℕ → ℕ) → AreMembers g.N.Node.stands r l.self got archived → (n : ℕ) → l.left + n ≡ 3 * r.f + 1 → IsBest r got l.left n l.best)

abbrev pub decreases-loop-left : goal.decreases-loop-left
decreases-loop-left g l = l.left

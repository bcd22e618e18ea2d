use Rattle.std.proofs.Common.{◌≡◌, ◌-◌, List, length}
use Rattle.ring_model.specs.Messages.{Ring, Letter}
use Rattle.ring_member.specs.Views.{view_of, IsWhole}
use Rattle.ring_member.specs.Standing.{Live, Ran}
use Rattle.ring_member.proofs.progress.Progress.advance.Given as goal

abbrev pub invariant-loop-self : goal.invariant-loop-self
invariant-loop-self l = record {
  whole : IsWhole l.self;
  faults : l.self.f ≡ l.fn.self.f;
  stands : (g : Ring) (got : List Letter) → Live g l.fn.self.f (view_of l.fn.self) got → Ran g (view_of l.fn.self) got → Live g l.self.f (view_of l.self) got × Ran g (view_of l.self) got;
}

abbrev pub decreases-loop-self : goal.decreases-loop-self
decreases-loop-self l = 65536 - length l.self.done

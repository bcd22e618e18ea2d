use Rattle.std.proofs.Common.{◌≡◌, ◌++◌, take}
use Rattle.cow_tree.specs.Changed.{changed_in_rows}
use Rattle.cow_tree.proofs.changed.add_changed_leaves.Given as goal

abbrev pub invariant-loop-place : goal.invariant-loop-place
invariant-loop-place l = l.changed ≡ l.fn.changed ++ changed_in_rows (take l.place l.groups) l.before

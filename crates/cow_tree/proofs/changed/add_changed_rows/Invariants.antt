use Rattle.std.proofs.Common.{◌≡◌, ◌++◌, take}
use Rattle.cow_tree.specs.Changed.{changed_in_rows}
use Rattle.cow_tree.proofs.changed.add_changed_rows.Given as goal

abbrev pub invariant-loop-level : goal.invariant-loop-level
invariant-loop-level l = l.changed ≡ l.fn.changed ++ changed_in_rows (take l.level l.rows) l.before

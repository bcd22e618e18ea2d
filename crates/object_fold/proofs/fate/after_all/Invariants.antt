use Rattle.std.proofs.Common.{◌≡◌, ◌≤◌, drop}
use Rattle.object_fold.specs.Choice.{length_after_all}
use Rattle.object_fold.proofs.fate.after_all.Given as goal

abbrev pub invariant-loop-action : goal.invariant-loop-action
invariant-loop-action l = record {
  small : l.count ≤ 1048576;
  rest : length_after_all (drop l.action-index l.actions) l.count ≡ length_after_all l.actions l.fn.count;
}

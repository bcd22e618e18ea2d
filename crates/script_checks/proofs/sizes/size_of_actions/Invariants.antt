use Rattle.std.proofs.Common.{◌≡◌, ◌-◌, ◌^◌, min, take}
use Rattle.std.specs.List.{sum_by}
use Rattle.script_grammar.specs.Steps.{content_size}
use Rattle.script_checks.proofs.sizes.size_of_actions.Given as goal

abbrev pub invariant-loop-action : goal.invariant-loop-action
invariant-loop-action l = l.size ≡ min (sum_by content_size (take l.action-index l.actions)) (2 ^ 64 - 1)

use Rattle.std.proofs.Common.{arith}
use Rattle.std.proofs.lemmas.List.{length-map}
use Rattle.std.proofs.lemmas.Bool.{ltb-true, ltb-false}
use Rattle.script_words.specs.Groups.{texts}
use Rattle.script_words.proofs.Grouped.{short_group, long_group}
use Rattle.script_words.proofs.action.action.Goals as goal
use Rattle.script_words.proofs.action.action.Goals.{in_default-via-then-group-lt2, in_default-via-else-group-lt2+else-group-lt3+else-group-lt4+else-group-lt5}

pub returns-in_default : goal.returns-in_default
returns-in_default c = elim c.in_default.branch [
  | in_default-via-then-group-lt2 w ↦ short_group (texts c.args.group.now) (simp length-map (omega (arith, ltb-true, ltb-false)))
  | in_default-via-else-group-lt2+else-group-lt3+else-group-lt4+else-group-lt5 w ↦ long_group (texts c.args.group.now) (simp length-map (omega (arith, ltb-true, ltb-false)))
]

use Rattle.std.proofs.Common.{◌≡◌, map, take}
use Rattle.stages.specs.Rows.{rows_of}
use Rattle.stages.proofs.rows.all_rows.Given as goal

abbrev pub invariant-loop-string : goal.invariant-loop-string
invariant-loop-string l = l.rows.items ≡ map (rows_of l.code) (take l.string-index l.strings)

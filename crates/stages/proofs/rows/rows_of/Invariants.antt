use Rattle.std.proofs.Common.{◌≡◌, map, ◌++◌}
use Rattle.stages.specs.Rows.{rows_of}
use Rattle.stages.proofs.rows.rows_of.Given as goal

-- the rows that were taken over, and those that are left, are all rows
abbrev pub invariant-loop-row : goal.invariant-loop-row
invariant-loop-row l = l.rows.items ++ map (λ r. r.items) l.row-iterator.rest.items ≡ rows_of l.code l.string

use Rattle.std.proofs.Common.{◌≡◌, ◌-◌, ◌^◌, min, take}
use Rattle.std.specs.List.{sum_by}
use Rattle.script_terms.specs.declared.line.LineClause.{LineClause}
use Rattle.script_grammar.specs.Steps.{content_size}
use Rattle.script_checks.proofs.sizes.content_size.Given as goal

abbrev pub invariant-loop-clause : goal.invariant-loop-clause
invariant-loop-clause l = l.size ≡ min (sum_by (λ (c : LineClause). sum_by content_size c.actions) (take l.clause-index l.clauses)) (2 ^ 64 - 1)

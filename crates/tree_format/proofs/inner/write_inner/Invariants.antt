use Rattle.std.proofs.Common.{◌≡◌, ◌++◌, length}
use Rattle.std.specs.List.{AllByRecursion}
use Rattle.tree_format.specs.Strings.{inner_string, joined_names}
use Rattle.tree_format.specs.Grammar.{IsName}
use Rattle.tree_format.proofs.inner.write_inner.Given as goal

abbrev pub invariant-loop-rest : goal.invariant-loop-rest
invariant-loop-rest l =
    (l.string.items ++ joined_names l.rest ≡ inner_string l.names)
    × (AllByRecursion IsName l.rest → AllByRecursion IsName l.names)

abbrev pub decreases-loop-rest : goal.decreases-loop-rest
decreases-loop-rest l = length l.rest

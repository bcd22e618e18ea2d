use Rattle.std.proofs.Common.{◌≡◌, ◌-◌, ◌++◌}
use Rattle.script_grammar.specs.Words as spec
use Rattle.script_words.proofs.contents.generated.Given as goal

abbrev pub invariant-loop : goal.invariant-loop
invariant-loop l = l.bytes.items ++ spec.generated l.last (l.count - l.counter) ≡ spec.generated l.seed l.count

use Rattle.std.proofs.Common.{◌≡◌, ◌≤◌, drop}
use Rattle.script_grammar.specs.Words.{number_after}
use Rattle.script_words.proofs.numbers.number_of.Given as goal

abbrev pub invariant-loop-digit : goal.invariant-loop-digit
invariant-loop-digit l = (number_after l.number (drop l.digit-index l.word) ≡ number_after 0 l.word) × (l.number ≤ 4294967295)

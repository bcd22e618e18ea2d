use Rattle.std.proofs.Common.{◌≡◌, drop}
use Rattle.script_grammar.specs.Words.{words_of}
use Rattle.script_text.specs.Skipping.{say_nothing}
use Rattle.script_text.proofs.skipping.is_silent.Given as goal

abbrev pub invariant-loop-byte : goal.invariant-loop-byte
invariant-loop-byte l = say_nothing (words_of (drop l.byte-index l.line)) ≡ say_nothing (words_of l.line)

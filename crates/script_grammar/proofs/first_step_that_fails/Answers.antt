use Rattle.std.proofs.Common.{refl}
use Rattle.hex.specs.Hex.{decode_pairs}
use Rattle.script_grammar.specs.Words.{generated}
use Rattle.script_grammar.proofs.first_step_that_fails.Goals as goal

pub returns-clause-byte : goal.returns-clause-byte
unfolding decode_pairs generated
returns-clause-byte c = refl

pub returns-clause-skipped : goal.returns-clause-skipped
unfolding decode_pairs generated
returns-clause-skipped c = refl

pub returns-clause-verb : goal.returns-clause-verb
unfolding decode_pairs generated
returns-clause-verb c = refl

pub returns-clause-order : goal.returns-clause-order
unfolding decode_pairs generated
returns-clause-order c = refl

pub returns-clause-words : goal.returns-clause-words
unfolding decode_pairs generated
returns-clause-words c = refl

pub returns-clause-fixed : goal.returns-clause-fixed
unfolding decode_pairs generated
returns-clause-fixed c = refl

pub returns-clause-word : goal.returns-clause-word
unfolding decode_pairs generated
returns-clause-word c = refl

pub returns-clause-range : goal.returns-clause-range
unfolding decode_pairs generated
returns-clause-range c = refl

pub returns-clause-end : goal.returns-clause-end
unfolding decode_pairs generated
returns-clause-end c = refl

pub returns-clause-nothing : goal.returns-clause-nothing
unfolding decode_pairs generated
returns-clause-nothing c = refl

use Rattle.std.proofs.Common.{refl}
use Rattle.hex.specs.Hex.{decode_pairs}
use Rattle.script_grammar.specs.Words.{generated}
use Rattle.script_grammar.proofs.clients_are_shown.Goals as goal

pub returns-clause-range : goal.returns-clause-range
unfolding decode_pairs generated
returns-clause-range c = refl

pub returns-clause-word : goal.returns-clause-word
unfolding decode_pairs generated
returns-clause-word c = refl

pub returns-clause-words : goal.returns-clause-words
unfolding decode_pairs generated
returns-clause-words c = refl

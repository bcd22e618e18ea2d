use Rattle.std.proofs.Common.{refl}
use Rattle.hex.specs.Hex.{decode_pairs}
use Rattle.script_grammar.specs.Words.{generated}
use Rattle.script_grammar.proofs.forged_hearts.Goals as goal

pub returns-clause-correct : goal.returns-clause-correct
unfolding decode_pairs generated
returns-clause-correct c = refl

pub returns-clause-party : goal.returns-clause-party
unfolding decode_pairs generated
returns-clause-party c = refl

pub returns-clause-version : goal.returns-clause-version
unfolding decode_pairs generated
returns-clause-version c = refl

pub returns-clause-label : goal.returns-clause-label
unfolding decode_pairs generated
returns-clause-label c = refl

pub returns-clause-name : goal.returns-clause-name
unfolding decode_pairs generated
returns-clause-name c = refl

pub returns-clause-digits : goal.returns-clause-digits
unfolding decode_pairs generated
returns-clause-digits c = refl

pub returns-clause-long : goal.returns-clause-long
unfolding decode_pairs generated
returns-clause-long c = refl

pub returns-clause-first : goal.returns-clause-first
unfolding decode_pairs generated
returns-clause-first c = refl

pub returns-clause-count : goal.returns-clause-count
unfolding decode_pairs generated
returns-clause-count c = refl

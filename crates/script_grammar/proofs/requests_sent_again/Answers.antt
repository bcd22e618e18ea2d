use Rattle.std.proofs.Common.{refl}
use Rattle.hex.specs.Hex.{decode_pairs}
use Rattle.script_grammar.specs.Words.{generated}
use Rattle.script_grammar.proofs.requests_sent_again.Goals as goal

pub returns-clause-nothing : goal.returns-clause-nothing
unfolding decode_pairs generated
returns-clause-nothing c = refl

pub returns-clause-later : goal.returns-clause-later
unfolding decode_pairs generated
returns-clause-later c = refl

pub returns-clause-zero : goal.returns-clause-zero
unfolding decode_pairs generated
returns-clause-zero c = refl

pub returns-clause-another : goal.returns-clause-another
unfolding decode_pairs generated
returns-clause-another c = refl

pub returns-clause-not_counted : goal.returns-clause-not_counted
unfolding decode_pairs generated
returns-clause-not_counted c = refl

pub returns-clause-client : goal.returns-clause-client
unfolding decode_pairs generated
returns-clause-client c = refl

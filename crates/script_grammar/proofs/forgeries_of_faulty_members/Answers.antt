use Rattle.std.proofs.Common.{refl}
use Rattle.hex.specs.Hex.{decode_pairs}
use Rattle.script_grammar.specs.Words.{generated}
use Rattle.script_grammar.proofs.forgeries_of_faulty_members.Goals as goal

pub returns-clause-correct : goal.returns-clause-correct
unfolding decode_pairs generated
returns-clause-correct c = refl

pub returns-clause-correct_raw : goal.returns-clause-correct_raw
unfolding decode_pairs generated
returns-clause-correct_raw c = refl

pub returns-clause-party : goal.returns-clause-party
unfolding decode_pairs generated
returns-clause-party c = refl

pub returns-clause-raw_party : goal.returns-clause-raw_party
unfolding decode_pairs generated
returns-clause-raw_party c = refl

pub returns-clause-slot : goal.returns-clause-slot
unfolding decode_pairs generated
returns-clause-slot c = refl

pub returns-clause-last_slot : goal.returns-clause-last_slot
unfolding decode_pairs generated
returns-clause-last_slot c = refl

pub returns-clause-client : goal.returns-clause-client
unfolding decode_pairs generated
returns-clause-client c = refl

pub returns-clause-request : goal.returns-clause-request
unfolding decode_pairs generated
returns-clause-request c = refl

pub returns-clause-content : goal.returns-clause-content
unfolding decode_pairs generated
returns-clause-content c = refl

pub returns-clause-kind : goal.returns-clause-kind
unfolding decode_pairs generated
returns-clause-kind c = refl

pub returns-clause-count : goal.returns-clause-count
unfolding decode_pairs generated
returns-clause-count c = refl

use Rattle.std.proofs.Common.{refl}
use Rattle.hex.specs.Hex.{decode_pairs}
use Rattle.script_grammar.specs.Words.{generated}
use Rattle.script_grammar.proofs.faulty_members_and_homes.Goals as goal

pub returns-clause-ring : goal.returns-clause-ring
unfolding decode_pairs generated
returns-clause-ring c = refl

pub returns-clause-full : goal.returns-clause-full
unfolding decode_pairs generated
returns-clause-full c = refl

pub returns-clause-none : goal.returns-clause-none
unfolding decode_pairs generated
returns-clause-none c = refl

pub returns-clause-member : goal.returns-clause-member
unfolding decode_pairs generated
returns-clause-member c = refl

pub returns-clause-twice : goal.returns-clause-twice
unfolding decode_pairs generated
returns-clause-twice c = refl

pub returns-clause-late : goal.returns-clause-late
unfolding decode_pairs generated
returns-clause-late c = refl

pub returns-clause-client : goal.returns-clause-client
unfolding decode_pairs generated
returns-clause-client c = refl

pub returns-clause-home : goal.returns-clause-home
unfolding decode_pairs generated
returns-clause-home c = refl

pub returns-clause-again : goal.returns-clause-again
unfolding decode_pairs generated
returns-clause-again c = refl

pub returns-clause-replica : goal.returns-clause-replica
unfolding decode_pairs generated
returns-clause-replica c = refl

pub returns-clause-before : goal.returns-clause-before
unfolding decode_pairs generated
returns-clause-before c = refl

use Rattle.std.proofs.Common.{refl}
use Rattle.hex.specs.Hex.{decode_pairs}
use Rattle.script_grammar.specs.Words.{generated}
use Rattle.script_grammar.proofs.messages_and_their_parties.Goals as goal

pub returns-clause-sender : goal.returns-clause-sender
unfolding decode_pairs generated
returns-clause-sender c = refl

pub returns-clause-to : goal.returns-clause-to
unfolding decode_pairs generated
returns-clause-to c = refl

pub returns-clause-place : goal.returns-clause-place
unfolding decode_pairs generated
returns-clause-place c = refl

pub returns-clause-lost : goal.returns-clause-lost
unfolding decode_pairs generated
returns-clause-lost c = refl

pub returns-clause-lost_from : goal.returns-clause-lost_from
unfolding decode_pairs generated
returns-clause-lost_from c = refl

pub returns-clause-mute : goal.returns-clause-mute
unfolding decode_pairs generated
returns-clause-mute c = refl

pub returns-clause-unmute : goal.returns-clause-unmute
unfolding decode_pairs generated
returns-clause-unmute c = refl

pub returns-clause-kind : goal.returns-clause-kind
unfolding decode_pairs generated
returns-clause-kind c = refl

pub returns-clause-number : goal.returns-clause-number
unfolding decode_pairs generated
returns-clause-number c = refl

pub returns-clause-alone : goal.returns-clause-alone
unfolding decode_pairs generated
returns-clause-alone c = refl

pub returns-clause-words : goal.returns-clause-words
unfolding decode_pairs generated
returns-clause-words c = refl

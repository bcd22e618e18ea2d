use Rattle.std.proofs.Common.{refl}
use Rattle.hex.specs.Hex.{decode_pairs}
use Rattle.script_grammar.specs.Words.{generated}
use Rattle.script_grammar.proofs.updates_in_groups.Goals as goal

pub returns-clause-taken : goal.returns-clause-taken
unfolding decode_pairs generated
returns-clause-taken c = refl

pub returns-clause-missing : goal.returns-clause-missing
unfolding decode_pairs generated
returns-clause-missing c = refl

pub returns-clause-nothing : goal.returns-clause-nothing
unfolding decode_pairs generated
returns-clause-nothing c = refl

pub returns-clause-guard : goal.returns-clause-guard
unfolding decode_pairs generated
returns-clause-guard c = refl

pub returns-clause-delete : goal.returns-clause-delete
unfolding decode_pairs generated
returns-clause-delete c = refl

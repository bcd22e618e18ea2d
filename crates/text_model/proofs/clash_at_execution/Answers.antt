use Rattle.std.proofs.Common.{refl}
use Rattle.std.specs.Fmt.{digits}
use Rattle.hex.specs.Hex.{decode_pairs, encode_with}
use Rattle.object_model.specs.Pieces.{pieces}
use Rattle.script_grammar.specs.Words.{generated}
use Rattle.text_model.proofs.clash_at_execution.Goals as goal

pub returns-clause-guard : goal.returns-clause-guard
unfolding decode_pairs encode_with digits pieces generated
returns-clause-guard c = refl

pub returns-clause-start : goal.returns-clause-start
unfolding decode_pairs encode_with digits pieces generated
returns-clause-start c = refl

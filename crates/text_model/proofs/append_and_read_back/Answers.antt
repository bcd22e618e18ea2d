use Rattle.std.proofs.Common.{refl}
use Rattle.std.specs.Fmt.{digits}
use Rattle.hex.specs.Hex.{decode_pairs, encode_with}
use Rattle.object_model.specs.Pieces.{pieces}
use Rattle.script_grammar.specs.Words.{generated}
use Rattle.text_model.proofs.append_and_read_back.Goals as goal

pub returns-clause-unsettled : goal.returns-clause-unsettled
unfolding decode_pairs encode_with digits pieces generated
returns-clause-unsettled c = refl

pub returns-clause-nothing : goal.returns-clause-nothing
unfolding decode_pairs encode_with digits pieces generated
returns-clause-nothing c = refl

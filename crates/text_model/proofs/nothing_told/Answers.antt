use Rattle.std.proofs.Common.{refl}
use Rattle.std.specs.Fmt.{digits}
use Rattle.hex.specs.Hex.{decode_pairs, encode_with}
use Rattle.object_model.specs.Pieces.{pieces}
use Rattle.script_grammar.specs.Words.{generated}
use Rattle.text_model.proofs.nothing_told.Goals as goal

pub returns : goal.returns
unfolding decode_pairs encode_with digits pieces generated
returns c = refl

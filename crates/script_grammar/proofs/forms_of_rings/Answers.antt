use Rattle.std.proofs.Common.{refl}
use Rattle.hex.specs.Hex.{decode_pairs}
use Rattle.script_grammar.specs.Words.{generated}
use Rattle.script_grammar.proofs.forms_of_rings.Goals as goal

pub returns : goal.returns
unfolding decode_pairs generated
returns c = refl

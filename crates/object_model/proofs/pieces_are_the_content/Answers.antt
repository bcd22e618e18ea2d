use Rattle.std.proofs.Common.{length, arith}
use Rattle.object_model.proofs.LawLemmas.{joined}
use Rattle.object_model.proofs.pieces_are_the_content.Goals as goal

pub returns : goal.returns
returns c = λ size content some. joined size (length content) content some (omega arith)

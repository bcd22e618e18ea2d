use Rattle.manifest.proofs.Decoded.{written_again}
use Rattle.manifest.proofs.laws.written_then_read.Goals as goal

pub returns : goal.returns
returns c = written_again

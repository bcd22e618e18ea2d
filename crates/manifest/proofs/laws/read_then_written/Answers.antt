use Rattle.manifest.proofs.Decoded.{read_again}
use Rattle.manifest.proofs.laws.read_then_written.Goals as goal

pub returns : goal.returns
returns c = read_again

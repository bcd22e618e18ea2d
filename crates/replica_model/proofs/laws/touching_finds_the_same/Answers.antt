use Rattle.replica_model.proofs.Caching.{touched_finds}
use Rattle.replica_model.proofs.laws.touching_finds_the_same.Goals as goal

pub returns : goal.returns
returns c = λ entries name other. touched_finds entries name other

use Rattle.replica_model.proofs.Chaining.{goes_up}
use Rattle.replica_model.proofs.laws.chains_go_up.Goals as goal

pub returns : goal.returns
returns c = λ parents r parent forest is. goes_up parents r parent forest is

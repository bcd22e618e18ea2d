use Rattle.fragment_store.proofs.Offers.{spoiled_counts_so}
use Rattle.fragment_store.proofs.laws.spoiled_counts.Goals as goal

pub returns : goal.returns
returns c = spoiled_counts_so

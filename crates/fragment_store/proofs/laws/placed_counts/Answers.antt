use Rattle.fragment_store.proofs.Offers.{placed_counts_so}
use Rattle.fragment_store.proofs.laws.placed_counts.Goals as goal

pub returns : goal.returns
returns c = placed_counts_so

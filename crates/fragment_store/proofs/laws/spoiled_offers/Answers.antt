use Rattle.fragment_store.proofs.Offers.{spoiled_offers_so}
use Rattle.fragment_store.proofs.laws.spoiled_offers.Goals as goal

pub returns : goal.returns
returns c = spoiled_offers_so

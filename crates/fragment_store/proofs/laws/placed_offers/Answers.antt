use Rattle.fragment_store.proofs.Offers.{placed_offers_so}
use Rattle.fragment_store.proofs.laws.placed_offers.Goals as goal

pub returns : goal.returns
returns c = placed_offers_so

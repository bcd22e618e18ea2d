use Rattle.fragment_store.proofs.Offers.{replaced_offers_so}
use Rattle.fragment_store.proofs.laws.replaced_offers.Goals as goal

pub returns : goal.returns
returns c = replaced_offers_so

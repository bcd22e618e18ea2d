use Rattle.fragment_store.proofs.Offers.{replaced_again_so}
use Rattle.fragment_store.proofs.laws.replaced_again.Goals as goal

pub returns : goal.returns
returns c = replaced_again_so

use Rattle.std.proofs.Common.{◌∷◌}
use Rattle.replica_model.specs.Caches.{without}
use Rattle.replica_model.proofs.Caching.{take_is_short}
use Rattle.replica_model.proofs.laws.no_more_than_the_size.Goals as goal

pub returns : goal.returns
returns c = λ size entries name bytes. take_is_short size ((name, bytes) ∷ without entries name)

use Rattle.replica_model.proofs.Caching.{put_is_found}
use Rattle.replica_model.proofs.laws.kept_strings_are_found.Goals as goal

pub returns : goal.returns
returns c = λ size entries name bytes some. put_is_found size entries name bytes some

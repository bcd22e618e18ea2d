use Rattle.pond_world.proofs.Sites.{world_known}
use Rattle.pond_world.proofs.site.worlds_stay_known.Goals as goal

pub returns : goal.returns
returns c = world_known

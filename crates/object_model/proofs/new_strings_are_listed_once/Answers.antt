use Rattle.object_model.specs.Trees.{version_strings, strings_so_far}
use Rattle.object_model.proofs.NewLemmas.{are_once}
use Rattle.object_model.proofs.new_strings_are_listed_once.Goals as goal

pub returns : goal.returns
returns c = λ h block content older. are_once (strings_so_far h block older) (version_strings h block content older)

use Rattle.object_model.specs.Trees.{version_strings, strings_so_far}
use Rattle.object_model.proofs.NewLemmas.{are_new}
use Rattle.object_model.proofs.new_strings_are_new.Goals as goal

pub returns : goal.returns
returns c = λ h block content older string is. are_new string (strings_so_far h block older) (version_strings h block content older) is

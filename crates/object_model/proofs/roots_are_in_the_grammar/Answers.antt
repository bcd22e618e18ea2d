use Rattle.object_model.proofs.RootLemmas.{is_root}
use Rattle.object_model.proofs.roots_are_in_the_grammar.Goals as goal

pub returns : goal.returns
returns c = is_root

use Rattle.vote_words_model.proofs.Keeping.{steps_keep as law}
use Rattle.vote_words_model.proofs.steps_keep.Goals as goal

pub returns : goal.returns
returns c = law

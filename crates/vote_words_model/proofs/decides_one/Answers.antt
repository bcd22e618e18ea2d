use Rattle.vote_words_model.proofs.Deciding.{decides_one as law}
use Rattle.vote_words_model.proofs.decides_one.Goals as goal

pub returns : goal.returns
returns c = law

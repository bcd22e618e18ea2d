use Rattle.vote_words_model.proofs.Keeping.{words_stay as law}
use Rattle.vote_words_model.proofs.words_stay.Goals as goal

pub returns : goal.returns
returns c = law

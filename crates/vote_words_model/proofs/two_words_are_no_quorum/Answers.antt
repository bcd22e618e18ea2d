use Rattle.vote_words_model.proofs.Guards.{two_words_are_no_quorum as law}
use Rattle.vote_words_model.proofs.two_words_are_no_quorum.Goals as goal

pub returns : goal.returns
returns c = law

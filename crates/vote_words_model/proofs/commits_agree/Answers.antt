use Rattle.vote_words_model.proofs.Deciding.{commits_agree as law}
use Rattle.vote_words_model.proofs.commits_agree.Goals as goal

pub returns : goal.returns
returns c = law

use Rattle.vote_words_model.proofs.Keeping.{opening_is_kept as law}
use Rattle.vote_words_model.proofs.opening_is_kept.Goals as goal

pub returns : goal.returns
returns c = law

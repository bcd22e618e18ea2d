use Rattle.vote_words_model.proofs.Deciding.{views_are_sound as law}
use Rattle.vote_words_model.proofs.views_are_sound.Goals as goal

pub returns : goal.returns
returns c = law

use Rattle.vote_words_model.proofs.Schedules.{all_decide_one as law}
use Rattle.vote_words_model.proofs.all_decide_one.Goals as goal

pub returns : goal.returns
returns c = law

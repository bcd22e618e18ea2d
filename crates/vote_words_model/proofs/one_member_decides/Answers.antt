use Rattle.vote_words_model.proofs.Guards.{one_member_decides as law}
use Rattle.vote_words_model.proofs.one_member_decides.Goals as goal

pub returns : goal.returns
returns c = law

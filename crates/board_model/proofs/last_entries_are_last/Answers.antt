use Rattle.board_model.proofs.Lasts.{last_is}
use Rattle.board_model.proofs.last_entries_are_last.Goals as goal

pub returns : goal.returns
returns c = last_is

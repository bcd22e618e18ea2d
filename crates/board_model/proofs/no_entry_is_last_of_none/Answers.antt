use Rattle.board_model.proofs.Lasts.{none_is}
use Rattle.board_model.proofs.no_entry_is_last_of_none.Goals as goal

pub returns : goal.returns
returns c = none_is

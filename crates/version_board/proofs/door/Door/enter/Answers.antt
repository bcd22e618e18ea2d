use Rattle.version_board.proofs.RuleKept.{looks_again}
use Rattle.version_board.proofs.door.Door.enter.Goals as goal

pub enter_as-requires : goal.enter_as-requires
enter_as-requires c copy = looks_again _ _ copy

use Rattle.std.proofs.Common.{None}
use Rattle.board_model.proofs.Kept.{comes}
use Rattle.board_model.proofs.newcomers_keep_the_rule.Goals as goal

pub returns : goal.returns
returns c published all kept = comes published all None tt kept

use Rattle.version_board.proofs.RuleKept.{forks, merges}
use Rattle.version_board.proofs.pen.Pen.reader.Goals as goal

pub tell-requires : goal.tell-requires
tell-requires c = forks _ _

pub learn-requires-clause-rule : goal.learn-requires-clause-rule
learn-requires-clause-rule c = merges _ _ _ _

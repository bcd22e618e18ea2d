use Rattle.board_model.specs.Rule.{IsSeen}
use Rattle.board_model.proofs.Kept.{takes, there}
use Rattle.board_model.proofs.telling_keeps_the_rule.Goals as goal

pub returns : goal.returns
returns c published all from to seen kept is = takes published all to seen (there (IsSeen published) all from seen kept is) kept

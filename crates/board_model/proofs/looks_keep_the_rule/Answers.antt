use Rattle.board_model.specs.Rule.{IsSeen}
use Rattle.board_model.proofs.Kept.{looks_keep, sees, there}
use Rattle.board_model.proofs.looks_keep_the_rule.Goals as goal

pub returns : goal.returns
returns c before after all at seen kept is more = (sees seen before after (there (IsSeen before) all at seen kept is) more, looks_keep before after all at kept more)

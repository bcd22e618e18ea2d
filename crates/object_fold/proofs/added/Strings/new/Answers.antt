use Rattle.std.proofs.Common.{[]}
use Rattle.object_fold.proofs.Adding.{just_none}
use Rattle.object_fold.proofs.added.Strings.new.Goals as goal

pub returns-clause-names : goal.returns-clause-names
returns-clause-names c = (c.in_ok-_first.ensures [] (just_none c.new-names.result.keys c.new-names.ensures.empty)).0

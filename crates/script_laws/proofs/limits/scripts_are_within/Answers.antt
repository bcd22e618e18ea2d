use Rattle.script_laws.proofs.Within.{within}
use Rattle.script_laws.proofs.limits.scripts_are_within.Goals as goal

pub returns : goal.returns
returns c = within

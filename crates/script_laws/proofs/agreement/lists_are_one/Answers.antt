use Rattle.script_laws.proofs.Lists.{lists_are_one as law}
use Rattle.script_laws.proofs.agreement.lists_are_one.Goals as goal

pub returns : goal.returns
returns c = law

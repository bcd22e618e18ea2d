use Rattle.script_laws.proofs.Beliefs.{beliefs_hold as law}
use Rattle.script_laws.proofs.agreement.beliefs_are_true.Goals as goal

pub returns : goal.returns
returns c = law

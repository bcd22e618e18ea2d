use Rattle.script_laws.proofs.FirstLines.{scripts_agree as law}
use Rattle.script_laws.proofs.agreement.scripts_agree.Goals as goal

pub returns : goal.returns
returns c = law

use Rattle.script_laws.proofs.FirstLines.{first_lines_are_legal as law}
use Rattle.script_laws.proofs.agreement.first_lines_are_legal.Goals as goal

pub returns : goal.returns
returns c = law

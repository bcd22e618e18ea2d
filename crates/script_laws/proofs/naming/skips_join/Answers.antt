use Rattle.script_laws.proofs.Joined.{skips_join as law}
use Rattle.script_laws.proofs.naming.skips_join.Goals as goal

pub returns : goal.returns
returns c = law

use Rattle.script_laws.proofs.Joined.{deliveries_are_named as law}
use Rattle.script_laws.proofs.naming.deliveries_are_named.Goals as goal

pub returns : goal.returns
returns c = law

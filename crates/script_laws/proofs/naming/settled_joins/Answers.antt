use Rattle.script_laws.proofs.Joined.{settled_is_reached, settled_joins}
use Rattle.script_laws.proofs.naming.settled_joins.Goals as goal

pub returns-clause-reached : goal.returns-clause-reached
returns-clause-reached c = settled_is_reached

pub returns-clause-joins : goal.returns-clause-joins
returns-clause-joins c = settled_joins

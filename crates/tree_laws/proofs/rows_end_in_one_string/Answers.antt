use Rattle.tree_laws.proofs.Ends.{ends}
use Rattle.tree_laws.proofs.rows_end_in_one_string.Goals as goal

pub returns : goal.returns
returns c = ends

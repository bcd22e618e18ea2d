use Rattle.script_laws.proofs.Submits.{submits_are_requests, counts_join}
use Rattle.script_laws.proofs.events.submits_are_requests.Goals as goal

pub returns-clause-strings : goal.returns-clause-strings
returns-clause-strings c = submits_are_requests

pub returns-clause-counts : goal.returns-clause-counts
returns-clause-counts c = counts_join

use Rattle.script_laws.proofs.Submits.{others_submit_none, one_request_a_line}
use Rattle.script_laws.proofs.events.one_request_a_line.Goals as goal

pub returns-clause-others : goal.returns-clause-others
returns-clause-others c = others_submit_none

pub returns-clause-requests : goal.returns-clause-requests
returns-clause-requests c = one_request_a_line

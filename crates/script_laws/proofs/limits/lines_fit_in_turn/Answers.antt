use Rattle.script_laws.proofs.Turns.{line_in_turn, submits_are_requests, few_are_submitted, faulty_are_members}
use Rattle.script_laws.proofs.limits.lines_fit_in_turn.Goals as goal

pub returns-clause-turn : goal.returns-clause-turn
returns-clause-turn c = line_in_turn

pub returns-clause-submits : goal.returns-clause-submits
returns-clause-submits c = submits_are_requests

pub returns-clause-few : goal.returns-clause-few
returns-clause-few c = few_are_submitted

pub returns-clause-faulty : goal.returns-clause-faulty
returns-clause-faulty c = faulty_are_members

use Rattle.script_laws.proofs.Coming.{events_come_of_lines}
use Rattle.script_laws.proofs.events.events_come_of_lines.Goals as goal

pub returns : goal.returns
returns c = events_come_of_lines

use Rattle.script_laws.proofs.Within.{within}
use Rattle.program_cases.proofs.clashes.end_of.Goals as goal

pub run-requires : goal.run-requires
run-requires g c = within c.args.text.now c.in-Ok.script c.in-Ok.ensures

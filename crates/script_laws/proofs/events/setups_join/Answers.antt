use Rattle.script_laws.proofs.Coming.{setups_join, rings_join, ring_is_sound}
use Rattle.script_laws.proofs.events.setups_join.Goals as goal

pub returns-clause-setup : goal.returns-clause-setup
returns-clause-setup c = setups_join

pub returns-clause-ring : goal.returns-clause-ring
returns-clause-ring c = rings_join

pub returns-clause-sound : goal.returns-clause-sound
returns-clause-sound c = ring_is_sound

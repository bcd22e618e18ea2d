use Rattle.script_run.proofs.Passed.{muted_next, declared_seat}
use Rattle.script_run.proofs.Turns.{turn_fits}
use Rattle.script_terms.specs.declared.line.Line.TheVariants.{Mute}
use Rattle.text_model.specs.Events.{ring_for, events_of}
use Rattle.script_run.specs.States.{lines_before}
use Rattle.ring_world.specs.Skipping.{skips as skips_of}
use Rattle.script_run.proofs.state.State.muted.Goals as goal

pub mute-requires : goal.mute-requires
mute-requires g c =
    declared_seat c.args.script.now.setup c.args.party c.requires.within.setup
    (turn_fits c.lines_fit_in_turn.ensures.turn g.H.Hash160.naming c.args.script.now c.args.at (Mute c.args.party) c.args.self.site (skips_of c.args.self.site.world) c.requires).meets.0

pub returns : goal.returns
returns g c =
    let h = g.H.Hash160.naming in
    let script = c.args.script.now in
    muted_next h script c.args.at c.args.party c.args.self.site c.mute.new.self (skips_of c.args.self.site.world) (skips_of c.mute.new.self.world) c.requires c.mute.ensures.held
    (c.in_ok-mute.ensures.stands (ring_for h script) (events_of h script (lines_before script c.args.at)) c.requires.stands.stands) c.in_ok-mute.ensures.muted c.in_ok-mute.ensures.lost

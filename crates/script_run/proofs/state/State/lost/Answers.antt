use Rattle.script_run.proofs.Passed.{lost_next, declared_seat}
use Rattle.script_run.proofs.Turns.{turn_fits}
use Rattle.script_terms.specs.declared.line.Line.TheVariants.{Lose}
use Rattle.text_model.specs.Events.{ring_for, events_of}
use Rattle.script_run.specs.States.{lines_before}
use Rattle.ring_world.specs.Skipping.{skips as skips_of}
use Rattle.script_run.proofs.state.State.lost.Goals as goal

pub lose-requires : goal.lose-requires
lose-requires g c =
    let fits = turn_fits c.lines_fit_in_turn.ensures.turn g.H.Hash160.naming c.args.script.now c.args.at (Lose c.args.from c.args.to c.args.place) c.args.self.site (skips_of c.args.self.site.world) c.requires in
    let setup = c.args.script.now.setup in
    (declared_seat setup c.args.from c.requires.within.setup fits.meets.0, declared_seat setup c.args.to c.requires.within.setup fits.meets.1.0, fits.meets.1.1.0)

pub returns : goal.returns
returns g c =
    let h = g.H.Hash160.naming in
    let script = c.args.script.now in
    lost_next h script c.args.at c.args.from c.args.to c.args.place c.args.self.site c.lose.new.self (skips_of c.args.self.site.world) (skips_of c.lose.new.self.world) c.requires c.lose.ensures.held
    (c.in_ok-lose.ensures.stands (ring_for h script) (events_of h script (lines_before script c.args.at)) c.requires.stands.stands) c.in_ok-lose.ensures.muted c.in_ok-lose.ensures.lost

use Rattle.std.proofs.lemmas.Result.{IfOk-weaker}
use Rattle.circular_buffer.specs.Buffer.{keep_last}
use Rattle.ring_model.specs.Deliveries.{deliveries}
use Rattle.text_model.specs.Events.{ring_for, events_of}
use Rattle.script_run.specs.States.{lines_before}
use Rattle.script_run.proofs.Shown.{world_is}
use Rattle.ring_world.specs.Skipping.{skips as skips_of}
use Rattle.script_run.proofs.printing.recent_text.Goals as goal

pub returns : goal.returns
returns g c =
    let h = g.H.Hash160.naming in
    let script = c.args.script.now in
    let lines = lines_before script c.args.at in
    let ring = ring_for h script in
    let events = events_of h script lines in
    let stands = world_is h script lines c.args.state.now.site (skips_of c.args.state.now.site.world) c.world.result.now c.requires c.world.ensures.world in
    IfOk-weaker c.recent_text.result _ _ (λ printed p. p (keep_last 8 (deliveries ring events)) (c.recent.ensures ring events stands)) c.recent_text.ensures

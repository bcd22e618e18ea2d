use Rattle.std.proofs.Common.{string_bytes, filter, ◌==◌}
use Rattle.script_terms.specs.declared.line.Line.TheVariants.{ShowClient}
use Rattle.text_model.specs.Events.{ring_for, events_of, world_of}
use Rattle.script_run.specs.States.{lines_before}
use Rattle.script_run.proofs.Turns.{turn_fits}
use Rattle.script_run.proofs.Believing.{client_here, requests_counted, client_told}
use Rattle.ring_world.specs.Skipping.{skips as skips_of}
use Rattle.script_run.proofs.printing.client_text.Goals as goal

pub client-known-requires : goal.client-known-requires
client-known-requires g c =
    let a = c.args in
    let h = g.H.Hash160.naming in
    client_here h a.script.now (lines_before a.script.now a.at) a.state.now.site (skips_of a.state.now.site.world) a.client c.requires.turn.stands
    (turn_fits c.lines_fit_in_turn.ensures.turn h a.script.now a.at (ShowClient a.client) a.state.now.site (skips_of a.state.now.site.world) c.requires.turn).meets.0

pub returns : goal.returns
returns g c =
    let a = c.args in
    let h = g.H.Hash160.naming in
    let script = a.script.now in
    let lines = lines_before script a.at in
    let ring = ring_for h script in
    let events = events_of h script lines in
    let turn = c.requires.turn in
    let own = filter (λ text. ring.owner text == a.client.0) (world_of h script lines).submits in
    client_told string_bytes c.client_text.result h script lines a.client c.client-known.result.now a.labels.now.entries own (c.client-known.ensures.stands ring events turn.stands.stands) c.requires.labels
    (requests_counted c.submits_are_requests.ensures.counts h script lines a.state.now.site (skips_of a.state.now.site.world) a.client turn.stands) c.client_text.ensures

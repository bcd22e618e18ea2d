use Rattle.std.proofs.Common.{◌<◌, ◌≤◌, ◌∷◌, [], length, refl, subst, arith}
use Rattle.text_model.specs.Named.{named}
use Rattle.text_model.specs.Text.{text_of}
use Rattle.pond_base.specs.Outside.{Seen}
use Rattle.script_run.specs.States.{StandsFor, lines_before}
use Rattle.script_run.proofs.Stepping.{says_first, start_written, stands_first, stands_more, says_at, says_done, line_at}
use Rattle.script_run.proofs.Turns.{lines_more}
use Rattle.ring_world.specs.Skipping.{skips as skips_of}
use Rattle.script_run.proofs.running.run.Goals as goal

pub returns-in-Err : goal.returns-in-Err
returns-in-Err g c =
    let h = g.H.Hash160.naming in
    let script = c.args.script.now in
    says_first h script _ c.end_at.result (c.end_at.ensures h (named h script []) (text_of h script) c.in-Err.ensures.fault (start_written h script))

pub loop-at-init : goal.loop-at-init
loop-at-init g c = (
  stands_first g.H.Hash160.naming c.args.script.now (g.K.Sink.taken c.args.sink.now) (g.K.Sink.faults c.args.sink.now) c.in-Ok.first.0.site (skips_of c.in-Ok.first.0.site.world) c.in-Ok.ensures.stands,
  c.new-outside.ensures,
)

pub returns-in-Err-after_line : goal.returns-in-Err-after_line
returns-in-Err-after_line g c =
    let h = g.H.Hash160.naming in
    let script = c.args.script.now in
    let i = c.loop-at.at in
    let here : i < length script.lines = omega (arith, c.loop-at-test.true, c.len-at-end.ensures) in
    let line = line_at script.lines i here in
    let first : Seen = record {
      before = g.K.Sink.taken c.args.sink.now;
      after = g.K.Sink.taken c.loop-at.sink;
      faults_before = g.K.Sink.faults c.args.sink.now;
      faults_after = g.K.Sink.faults c.loop-at.sink;
    } in
    let then : Seen = record {
      before = g.K.Sink.taken c.loop-at.sink;
      after = g.K.Sink.taken c.after_line.new.sink;
      faults_before = g.K.Sink.faults c.loop-at.sink;
      faults_after = g.K.Sink.faults c.after_line.new.sink;
    } in
    says_at h script i line.0 first then c.loop-at.state.site (skips_of c.loop-at.state.site.world) c.in-Err-after_line.end c.loop-at.invariant.0 refl refl here line.2 (c.in-Err-after_line.ensures.ends line.0 line.1)

pub loop-at-preserved : goal.loop-at-preserved
loop-at-preserved g c =
    let h = g.H.Hash160.naming in
    let script = c.args.script.now in
    let i = c.loop-at.at in
    let here : i < length script.lines = omega (arith, c.loop-at-test.true, c.len-at-end.ensures) in
    let line = line_at script.lines i here in
    let first : Seen = record {
      before = g.K.Sink.taken c.args.sink.now;
      after = g.K.Sink.taken c.loop-at.sink;
      faults_before = g.K.Sink.faults c.args.sink.now;
      faults_after = g.K.Sink.faults c.loop-at.sink;
    } in
    let then : Seen = record {
      before = g.K.Sink.taken c.loop-at.sink;
      after = g.K.Sink.taken c.after_line.new.sink;
      faults_before = g.K.Sink.faults c.loop-at.sink;
      faults_after = g.K.Sink.faults c.after_line.new.sink;
    } in
    let now : StandsFor h script (line.0 ∷ lines_before script i) c.in-Ok-after_line.state.site (skips_of c.in-Ok-after_line.state.site.world) =
    subst (λ lines. StandsFor h script lines c.in-Ok-after_line.state.site (skips_of c.in-Ok-after_line.state.site.world)) (lines_more script i line.0 line.1) c.in-Ok-after_line.ensures.stands in (
      stands_more h script i line.0 first then c.loop-at.state.site (skips_of c.loop-at.state.site.world) c.in-Ok-after_line.state.site (skips_of c.in-Ok-after_line.state.site.world) c.loop-at.invariant.0 refl refl here line.2 now
          (c.in-Ok-after_line.ensures.takes line.0 line.1),
      c.in-Ok-after_line.ensures.outside,
    )

pub returns : goal.returns
returns g c =
    let script = c.args.script.now in
    let all : length script.lines ≤ c.loop-at.at = omega (arith, c.loop-at-test.false, c.len-at-end.ensures) in
    says_done c.submits_are_requests.ensures.strings c.lists_are_one.ensures c.beliefs_are_true.ensures g.H.Hash160.naming script c.loop-at.at _ c.loop-at.state.site (skips_of c.loop-at.state.site.world) c.requires.setup c.loop-at.invariant.0 all

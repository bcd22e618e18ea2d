use Rattle.std.proofs.Common.{refl}
use Rattle.pond_base.specs.Outside.{Seen}
use Rattle.script_laws.proofs.Within.{within}
use Rattle.script_run.specs.declared.running.End.TheVariants as ends
use Rattle.pond_program.proofs.Agreed.{text_says, nothing_taken}
use Rattle.pond_program.proofs.top.run_text.Goals as goal

pub run-requires : goal.run-requires
run-requires g c = within c.args.text.now c.in-Ok.script c.in-Ok.ensures

pub returns-in-Done : goal.returns-in-Done
returns-in-Done g c =
    let sink : Seen = record { before = g.K.Sink.taken c.args.sink.now; after = g.K.Sink.taken c.run.new.sink; faults_before = g.K.Sink.faults c.args.sink.now; faults_after = g.K.Sink.faults c.run.new.sink } in
    text_says c.scripts_agree.ensures c.args.text.now c.in-Ok.script sink ends.Done c.in-Ok.ensures c.in-Done.ensures

pub returns-in-WriteFault : goal.returns-in-WriteFault
returns-in-WriteFault g c =
    let sink : Seen = record { before = g.K.Sink.taken c.args.sink.now; after = g.K.Sink.taken c.run.new.sink; faults_before = g.K.Sink.faults c.args.sink.now; faults_after = g.K.Sink.faults c.run.new.sink } in
    text_says c.scripts_agree.ensures c.args.text.now c.in-Ok.script sink ends.WriteFault c.in-Ok.ensures c.in-WriteFault.ensures

pub returns-in-Clash : goal.returns-in-Clash
returns-in-Clash g c =
    let sink : Seen = record { before = g.K.Sink.taken c.args.sink.now; after = g.K.Sink.taken c.run.new.sink; faults_before = g.K.Sink.faults c.args.sink.now; faults_after = g.K.Sink.faults c.run.new.sink } in
    text_says c.scripts_agree.ensures c.args.text.now c.in-Ok.script sink (ends.Clash c.in-Clash.line c.in-Clash.old c.in-Clash.new) c.in-Ok.ensures c.in-Clash.ensures

pub returns-in-Ok : goal.returns-in-Ok
returns-in-Ok g c =
    let sink : Seen = record { before = g.K.Sink.taken c.args.sink.now; after = g.K.Sink.taken c.run.new.sink; faults_before = g.K.Sink.faults c.args.sink.now; faults_after = g.K.Sink.faults c.run.new.sink } in
    text_says c.scripts_agree.ensures c.args.text.now c.in-Ok.script sink ends.Memory c.in-Ok.ensures c.in-Memory.ensures

pub returns : goal.returns
returns g c =
    let sink : Seen = record { before = g.K.Sink.taken c.args.sink.now; after = g.K.Sink.taken c.args.sink.now; faults_before = g.K.Sink.faults c.args.sink.now; faults_after = g.K.Sink.faults c.args.sink.now } in
    (nothing_taken c.scripts_agree.ensures c.args.text.now sink (record { same = refl; faults = refl }), refl)

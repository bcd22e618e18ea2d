use Rattle.script_run.specs.States.{IsOutside}
use Rattle.script_run.proofs.Stepping.{Stands}
use Rattle.ring_world.specs.Skipping.{skips as skips_of}
use Rattle.script_run.proofs.running.run.Given as goal

abbrev pub invariant-loop-at : goal.invariant-loop-at
invariant-loop-at g l = Stands g.H.Hash160.naming l.script l.at (record {
  before = g.K.Sink.taken l.initial.sink;
  after = g.K.Sink.taken l.sink;
  faults_before = g.K.Sink.faults l.initial.sink;
  faults_after = g.K.Sink.faults l.sink;
}) l.state.site (skips_of l.state.site.world) × IsOutside g.H.Hash160.naming l.script l.at l.outside

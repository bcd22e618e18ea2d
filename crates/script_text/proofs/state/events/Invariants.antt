use Rattle.std.proofs.Common.{◌≡◌}
use Rattle.std.specs.List.{flat_map}
use Rattle.script_grammar.specs.Script.{event_in}
use Rattle.script_text.proofs.state.events.Given as goal

abbrev pub invariant-loop-one : goal.invariant-loop-one
invariant-loop-one l = l.lines ≡ flat_map event_in l.yielded

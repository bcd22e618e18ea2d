use Rattle.std.proofs.Common.{◌≡◌, ◌++◌, drop, filter, not}
use Rattle.script_terms.specs.declared.line.Spot.{Spot}
use Rattle.text_model.specs.Outside.{same_spot}
use Rattle.script_run.proofs.outside.without.Given as goal

abbrev pub invariant-loop-other : goal.invariant-loop-other
invariant-loop-other l = l.left ++ filter (λ (other : Spot). not (same_spot l.spot other)) (drop l.other-index l.spots) ≡ filter (λ (other : Spot). not (same_spot l.spot other)) l.spots

use Rattle.std.proofs.Common.{◌≡◌, map, take}
use Rattle.cauchy_code.proofs.order.indexes.Given as goal

abbrev pub invariant-loop-part : goal.invariant-loop-part
invariant-loop-part l = l.indexes.items ≡ map (λ p. p.0) (take l.part-index l.parts)

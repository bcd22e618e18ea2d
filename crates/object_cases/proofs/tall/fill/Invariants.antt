use Rattle.object_fold.specs.Executed.{AreKnown}
use Rattle.object_cases.proofs.tall.fill.Given as goal

abbrev pub invariant-loop-number : goal.invariant-loop-number
invariant-loop-number g l = AreKnown g.H.Hash160.naming l.book.held l.objects

use Rattle.object_fold.specs.Executed.{AreKnown}
use Rattle.object_cases.proofs.objects.run_all.Given as goal

abbrev pub invariant-loop-digits : goal.invariant-loop-digits
invariant-loop-digits g l = AreKnown g.H.Hash160.naming l.book.held l.objects

use Rattle.std.proofs.Common.{refl}
use Rattle.pond_node.proofs.Served.{starts}
use Rattle.pond_node.proofs.node.Node.new.Goals as goal

pub returns-clause-stands : goal.returns-clause-stands
returns-clause-stands g c = λ g' ring faults clients slots folds.
    record {
      done = starts g.H.Hash160.naming _ g' c.args.id.0 ring (c.new-2.ensures g' faults slots) clients folds (record { after = c.in-Ok.ensures.after; outcomes_are = c.new-3.ensures });
      archived_are = refl;
    }

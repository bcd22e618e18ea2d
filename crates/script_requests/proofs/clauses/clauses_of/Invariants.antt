use Rattle.std.proofs.Common.{◌≡◌, map, take}
use Rattle.text_model.specs.Requests as model
use Rattle.text_model.specs.Named.{clause_strings}
use Rattle.script_requests.proofs.Holds.{Names}
use Rattle.script_requests.proofs.clauses.clauses_of.Given as goal

abbrev pub invariant-loop-clause : goal.invariant-loop-clause
invariant-loop-clause g l = record {
  value : l.made ≡ map (model.clause_of g.H.Hash160.naming) (take l.clause-index l.clauses);
  names : Names g.H.Hash160.naming clause_strings (take l.clause-index l.clauses) l.initial.book.held l.book.held;
}

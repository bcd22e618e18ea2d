use Rattle.std.proofs.Common.{◌≡◌, map, take}
use Rattle.text_model.specs.Requests as model
use Rattle.text_model.specs.Named.{guard_strings}
use Rattle.script_requests.proofs.Holds.{Names}
use Rattle.script_requests.proofs.clauses.guards_of.Given as goal

abbrev pub invariant-loop-guard : goal.invariant-loop-guard
invariant-loop-guard g l = record {
  value : l.made ≡ map (model.guard_of g.H.Hash160.naming) (take l.guard-index l.guards);
  names : Names g.H.Hash160.naming guard_strings (take l.guard-index l.guards) l.initial.book.held l.book.held;
}

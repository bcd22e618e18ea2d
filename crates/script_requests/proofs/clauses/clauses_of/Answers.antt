use Rattle.std.proofs.Common.{◌∷◌, ◌++◌, [], Contains, map, take, ap, ◌∙◌, sym}
use Rattle.std.specs.List.{flat_map}
use Rattle.std.proofs.lemmas.List.{map-append}
use Rattle.std.proofs.lemmas.Result.{err_from_is_err_and}
use Rattle.block_names.proofs.Grown.{clash_wider}
use Rattle.text_model.specs.Named.{clause_strings}
use Rattle.text_model.specs.Requests as model
use Rattle.script_requests.proofs.Holds.{names_more, grew_within, part_within, take_one_more}
use Rattle.script_requests.proofs.clauses.clauses_of.Goals as goal

pub returns-in_err-clause-clause-grew : goal.returns-in_err-clause-clause-grew
returns-in_err-clause-clause-grew g c =
    grew_within g.H.Hash160.naming clause_strings c.args.clauses.now c.loop-clause.clause-index c.clause-item.result c.args.book.now.held c.loop-clause.book.held c.clause_of.new.book.held
    c.loop-clause-test.true c.clause-item.is c.loop-clause.invariant.names c.clause_of.ensures.grew

pub returns-in_err-clause-clause-fault : goal.returns-in_err-clause-clause-fault
returns-in_err-clause-clause-fault g c =
    let p = err_from_is_err_and c.from_residual.result c.from_residual.ensures.1 in
    rw (p.1, p.2)
    (clash_wider g.H.Hash160.naming c.clause_of.new.book.held (Contains (clause_strings c.clause-item.result)) (Contains (flat_map clause_strings c.args.clauses.now)) c.in_err-clause.field-0.0
    (part_within clause_strings c.args.clauses.now c.loop-clause.clause-index c.clause-item.result c.loop-clause-test.true c.clause-item.is) c.in_err-clause.ensures.fault)

pub returns-in_err-push-clause-grew : goal.returns-in_err-push-clause-grew
returns-in_err-push-clause-grew g c =
    grew_within g.H.Hash160.naming clause_strings c.args.clauses.now c.loop-clause.clause-index c.clause-item.result c.args.book.now.held c.loop-clause.book.held c.clause_of.new.book.held
    c.loop-clause-test.true c.clause-item.is c.loop-clause.invariant.names c.clause_of.ensures.grew

pub loop-clause-preserved : goal.loop-clause-preserved
loop-clause-preserved g c = record {
  value =
      c.in_ok-push.ensures.ok ∙ ap (λ made. made ++ c.in_ok-clause.clause ∷ []) c.loop-clause.invariant.value
      ∙ ap (λ one. map (model.clause_of g.H.Hash160.naming) (take c.loop-clause.clause-index c.args.clauses.now) ++ one ∷ []) c.in_ok-clause.ensures.value
      ∙ sym (ap (map (model.clause_of g.H.Hash160.naming)) (take_one_more c.args.clauses.now c.loop-clause.clause-index c.clause-item.result c.loop-clause-test.true c.clause-item.is)
      ∙ map-append (model.clause_of g.H.Hash160.naming) (take c.loop-clause.clause-index c.args.clauses.now) (c.clause-item.result ∷ []));
  names = names_more g.H.Hash160.naming clause_strings c.args.clauses.now c.loop-clause.clause-index c.clause-item.result c.args.book.now.held c.loop-clause.book.held c.clause_of.new.book.held
      c.loop-clause-test.true c.clause-item.is c.loop-clause.invariant.names c.in_ok-clause.ensures.holds c.clause_of.ensures.grew;
}

use Rattle.std.proofs.Common.{◌∷◌, ◌++◌, [], Contains, map, take, ap, ◌∙◌, sym}
use Rattle.std.specs.List.{flat_map}
use Rattle.std.proofs.lemmas.List.{map-append}
use Rattle.std.proofs.lemmas.Result.{err_from_is_err_and}
use Rattle.block_names.proofs.Grown.{clash_wider}
use Rattle.text_model.specs.Named.{guard_strings}
use Rattle.text_model.specs.Requests as model
use Rattle.script_requests.proofs.Holds.{names_more, grew_within, part_within, take_one_more}
use Rattle.script_requests.proofs.clauses.guards_of.Goals as goal

pub returns-in_err-guard-clause-grew : goal.returns-in_err-guard-clause-grew
returns-in_err-guard-clause-grew g c =
    grew_within g.H.Hash160.naming guard_strings c.args.guards.now c.loop-guard.guard-index c.guard-item.result c.args.book.now.held c.loop-guard.book.held c.guard_of.new.book.held
    c.loop-guard-test.true c.guard-item.is c.loop-guard.invariant.names c.guard_of.ensures.grew

pub returns-in_err-guard-clause-fault : goal.returns-in_err-guard-clause-fault
returns-in_err-guard-clause-fault g c =
    let p = err_from_is_err_and c.from_residual.result c.from_residual.ensures.1 in
    rw (p.1, p.2)
    (clash_wider g.H.Hash160.naming c.guard_of.new.book.held (Contains (guard_strings c.guard-item.result)) (Contains (flat_map guard_strings c.args.guards.now)) c.in_err-guard.field-0.0
    (part_within guard_strings c.args.guards.now c.loop-guard.guard-index c.guard-item.result c.loop-guard-test.true c.guard-item.is) c.in_err-guard.ensures.fault)

pub returns-in_err-push-clause-grew : goal.returns-in_err-push-clause-grew
returns-in_err-push-clause-grew g c =
    grew_within g.H.Hash160.naming guard_strings c.args.guards.now c.loop-guard.guard-index c.guard-item.result c.args.book.now.held c.loop-guard.book.held c.guard_of.new.book.held
    c.loop-guard-test.true c.guard-item.is c.loop-guard.invariant.names c.guard_of.ensures.grew

pub loop-guard-preserved : goal.loop-guard-preserved
loop-guard-preserved g c = record {
  value =
      c.in_ok-push.ensures.ok ∙ ap (λ made. made ++ c.in_ok-guard.guard ∷ []) c.loop-guard.invariant.value
      ∙ ap (λ one. map (model.guard_of g.H.Hash160.naming) (take c.loop-guard.guard-index c.args.guards.now) ++ one ∷ []) c.in_ok-guard.ensures.value
      ∙ sym (ap (map (model.guard_of g.H.Hash160.naming)) (take_one_more c.args.guards.now c.loop-guard.guard-index c.guard-item.result c.loop-guard-test.true c.guard-item.is)
      ∙ map-append (model.guard_of g.H.Hash160.naming) (take c.loop-guard.guard-index c.args.guards.now) (c.guard-item.result ∷ []));
  names = names_more g.H.Hash160.naming guard_strings c.args.guards.now c.loop-guard.guard-index c.guard-item.result c.args.book.now.held c.loop-guard.book.held c.guard_of.new.book.held
      c.loop-guard-test.true c.guard-item.is c.loop-guard.invariant.names c.in_ok-guard.ensures.holds c.guard_of.ensures.grew;
}

use Rattle.std.proofs.Common.{◌∷◌, [], ◌∙◌, sym, subst}
use Rattle.std.proofs.lemmas.Result.{err_from_is_err_and}
use Rattle.block_names.specs.Growth.{Holds}
use Rattle.block_names.proofs.Grown.{now_held}
use Rattle.tree_format.specs.Strings.{label_string}
use Rattle.guarded_update.specs.Spelling.{request_string}
use Rattle.client_core.proofs.Calls.{names_err, grew_first, grew_both, clash_first, clash_second, both_held, both_known}
use Rattle.client_core.proofs.asking.name_request.Goals as goal

pub returns-in_err-name-clause-names : goal.returns-in_err-name-clause-names
returns-in_err-name-clause-names g c =
    let p = err_from_is_err_and c.from_residual-in_err-name.result c.from_residual-in_err-name.ensures.1 in
    let h = g.H.Hash160.naming in
    let label = c.as_slice.ensures ∙ c.in_ok-label.ensures in
    names_err h (label_string c.args.request.now.label ∷ request_string c.args.request.now ∷ []) c.args.book.now.held c.name.new.self.held c.from_residual-in_err-name.result p.0 c.in_err-name.field-0.0 p.1 p.2
    (grew_first h c.args.book.now.held c.name.new.self.held c.as_slice.result.now (label_string c.args.request.now.label) (request_string c.args.request.now) label c.name.ensures.grew)
    (clash_first h c.name.new.self.held c.as_slice.result.now (label_string c.args.request.now.label) (request_string c.args.request.now) c.in_err-name.field-0.0 label c.in_err-name.ensures.fault)

pub returns-in_err-name-2-clause-names : goal.returns-in_err-name-2-clause-names
returns-in_err-name-2-clause-names g c =
    let p = err_from_is_err_and c.from_residual-in_err-name-2.result c.from_residual-in_err-name-2.ensures.1 in
    let h = g.H.Hash160.naming in
    let label = c.as_slice.ensures ∙ c.in_ok-label.ensures in
    let text = c.as_slice-2.ensures ∙ c.in_ok-text.ensures.string in
    names_err h (label_string c.args.request.now.label ∷ request_string c.args.request.now ∷ []) c.args.book.now.held c.name-2.new.self.held c.from_residual-in_err-name-2.result p.0 c.in_err-name-2.field-0.0 p.1 p.2
    (grew_both h c.args.book.now.held c.name.new.self.held c.name-2.new.self.held c.as_slice.result.now c.as_slice-2.result.now (label_string c.args.request.now.label) (request_string c.args.request.now) label text c.name.ensures.grew c.name-2.ensures.grew)
    (clash_second h c.name-2.new.self.held c.as_slice-2.result.now (label_string c.args.request.now.label) (request_string c.args.request.now) c.in_err-name-2.field-0.0 text c.in_err-name-2.ensures.fault)

pub returns-clause-holds : goal.returns-clause-holds
returns-clause-holds g c =
    let h = g.H.Hash160.naming in
    subst (Holds h c.name-2.new.self.held) c.as_slice-2.ensures
    (subst (λ m. Holds h m c.as_slice-2.result.now) (sym c.in_ok-name-2.ensures.held) (now_held h c.name.new.self.held c.as_slice-2.result.now))

pub returns-clause-names : goal.returns-clause-names
returns-clause-names g c =
    let h = g.H.Hash160.naming in
    let label = c.as_slice.ensures ∙ c.in_ok-label.ensures in
    let text = c.as_slice-2.ensures ∙ c.in_ok-text.ensures.string in (
      both_held h c.args.book.now.held c.name.new.self.held c.name-2.new.self.held c.as_slice.result.now c.as_slice-2.result.now (label_string c.args.request.now.label) (request_string c.args.request.now) label text c.in_ok-name.ensures.held c.in_ok-name-2.ensures.held,
      grew_both h c.args.book.now.held c.name.new.self.held c.name-2.new.self.held c.as_slice.result.now c.as_slice-2.result.now (label_string c.args.request.now.label) (request_string c.args.request.now) label text c.name.ensures.grew c.name-2.ensures.grew,
      both_known h c.args.book.now.held c.name.new.self.held c.name-2.new.self.held c.as_slice.result.now c.as_slice-2.result.now (label_string c.args.request.now.label) (request_string c.args.request.now) label text c.in_ok-name.ensures.held c.in_ok-name-2.ensures.held c.name-2.ensures.grew,
    )
